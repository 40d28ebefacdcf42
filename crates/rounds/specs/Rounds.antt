-- Rounds as the code takes them, judged in the economies 0 to l. Offers `lowest_at` and `step_at`, the choice and the
-- raise by coalition values, what is kept from round to round (`KeptAt`), and what the functions ask (`Small`,
-- `Opens`, `OwnPrices`) and answer (`Round`, `TurnAt`, `Sold`); `Sold` is by the definition's rounds alone.
use Rattle.std.specs.Prelude.{◌≡◌, Bool, List, ℕ, ◌+◌, ◌-◌, ◌≤◌, eqb, length, set}
use Rattle.theory.specs.Sums.{pick}
use Rattle.theory.specs.Lists.{over}
use Rattle.theory.specs.Coalitions.{lowest_by}
use Rattle.owners.specs.Owners.{member}
use Rattle.owners.specs.Prices.{buyer_rows, Holds}
use Rattle.owners.specs.Quick.{left, raised_by, roster_in}
use Rattle.owners.specs.Singles.{worth_table, AtMost}
use Rattle.offers.specs.Offers.{Offer, market, layout, worth_of}
use Rattle.offers.specs.Rounds.{sets_from, prices_from}
use Rattle.supply.specs.Supply.{shift, at, payoff_at, Keeps, SmallGains, SmallRevenues}
use Rattle.raising.specs.Raising.{Rows}
use Rattle.rounds.specs.declared.Tables.{Tables}

-- 1 more than the number of the lowest undersupplied set at the prices ps, by the values; `top` is the bundle of all
-- lots
unfoldable pub lowest_at : ℕ → ℕ → ℕ → List ℕ → List ℕ → List ℕ → ℕ
lowest_at m l top ws values ps =
    lowest_by (roster_in m l) shift (at values) (left (buyer_rows m) (worth_table ws) top ps)

-- the prices after a round that takes the set x, with bundles below `all`
abbrev pub step_at : ℕ → ℕ → List ℕ → ℕ → List ℕ → List ℕ
step_at m all ws x ps =
    raised_by (buyer_rows m) all (worth_table ws) (member x) (left (buyer_rows m) (worth_table ws) (all - 1) ps) ps

-- a round, by prices and the rest of the record before and after it: where no set is undersupplied nothing changes,
-- else the set's number is the next byte, and the prices rise
pub record Round (choose : List ℕ → ℕ) (step : ℕ → List ℕ → List ℕ) (ps o ps' o' : List ℕ)
    (settled : Bool) : Type 0 where
  pub prices : ps' ≡ pick (eqb (choose ps) 0) ps (step (choose ps - 1) ps)
  pub bytes : o' ≡ pick (eqb (choose ps) 0) o (set o 0 (choose ps - 1))
  pub ends : settled ≡ eqb (choose ps) 0

-- what is kept at the prices ps: payoffs as they are read off the prices, and the others by the values
pub record KeptAt (m l top : ℕ) (ws values ps : List ℕ) (k : Tables) : Type 0 where
  pub payoffs : (i : ℕ) → 1 ≤ i → i ≤ m → payoff_at k.payoffs i ≡ left (buyer_rows 6) (worth_table ws) top ps i
  pub keeps : Keeps m l values k.payoffs k.gains k.revenues
  pub prices : Rows ps

-- what a round asks of what is kept
pub record Small (m l : ℕ) (k : Tables) : Type 0 where
  pub payoffs : AtMost 9999 k.payoffs
  pub gains : SmallGains m k.gains
  pub revenues : SmallRevenues l k.revenues

-- and what it answers, whatever the values that the tables are of: the round, and the tables at its prices
abbrev pub TurnAt : ℕ → ℕ → ℕ → List ℕ → List ℕ → Tables → List ℕ → List ℕ → Tables → List ℕ → Bool → Type 0
TurnAt m l all ws ps k o ps' k' o' settled = (values : List ℕ) → KeptAt m l (all - 1) ws values ps k →
    Round (lowest_at m l (all - 1) ws values) (step_at m all ws) ps o ps' o' settled
    × KeptAt m l (all - 1) ws values ps' k'

-- what at most f rounds from the prices ps on ask of the numbers, the tables and the record o
pub record Opens (m l all : ℕ) (ws ps : List ℕ) (f : ℕ) (o : List ℕ) : Type 0 where
  pub few : m ≤ 6
  pub judged : l ≤ m
  pub two : 2 ≤ all
  pub short : all ≤ 16
  pub worths : Rows ws
  pub start : Rows ps
  pub small : AtMost 9999 ws
  pub room : f ≤ length o
  pub most : ℕ
  pub low : AtMost most ps
  pub rise : most + f ≤ 60000

-- the prices are those of some payoffs, as in a sale
abbrev pub OwnPrices : Offer → List ℕ → Type 0
OwnPrices O ps = (π : ℕ → ℕ) × Holds (market O) (layout O) O.bundles (O.bundles - 1) (worth_of O) ps π

-- and what they answer: prices and record after them, and how many there were
pub record Sold (O : Offer) (l : ℕ) (ps : List ℕ) (f : ℕ) (o ps' o' : List ℕ) (n : ℕ) : Type 0 where
  pub prices : ps' ≡ prices_from O l ps f
  pub rounds : n ≡ length (sets_from O l ps f)
  pub bytes : o' ≡ over (sets_from O l ps f) o
