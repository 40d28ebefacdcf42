-- A sale by a list of prices, for any auction whose bidders have rows, with bundles below `all`. Offers the rounds
-- (`sets`, `last_prices`), and what demands 2 and 3 ask of the worths (`Valuations`) and of the auction (`Setting`).
use Rattle.std.specs.Prelude.{List, ℕ, ◌≤◌, ◌<◌}
use Rattle.theory.specs.Lists.{◌∈◌}
use Rattle.theory.specs.Rounds.{choices, after}
use Rattle.theory.specs.Markets.{Table, Bidder, sum_of}
use Rattle.theory.specs.Auction.{Economy, whole, Ranked, Auction, Ready, Proper, chosen, start}
use Rattle.theory.specs.Universal.{Bundled}
use Rattle.theory.specs.Coalitions.{Part}
use Rattle.owners.specs.Prices.{Layout, LaidOut, quote, raised}

module _ {A : Type 0} (X : Auction A) (L : Layout) (all : ℕ) where
  -- 1 more than the number of the lowest undersupplied set, 0 if there is none and the sale is settled
  abbrev pub choose : Table → List ℕ → ℕ
  choose v ps = chosen X (quote L all v ps)

  -- the prices after a round that takes the set x
  abbrev pub step : Table → ℕ → List ℕ → List ℕ
  step v x ps = raised L all v (X.member x) ps

  -- the sets of at most f rounds from the prices ps on, and the prices after them
  abbrev pub sets : Table → List ℕ → ℕ → List ℕ
  sets v ps f = choices (choose v) (step v) f ps

  abbrev pub last_prices : Table → List ℕ → ℕ → List ℕ
  last_prices v ps f = after (step v) ps (sets v ps f)

  -- question 9's sum: the worths of all lots together
  abbrev pub limit : Table → ℕ
  limit v = sum_of X.market (start X v)

  -- worths of which the bundle of all has the most
  pub record Valuations (v : Table) : Type 0 where
    pub proper : Proper X v
    pub topmost : (i : ℕ) → Bidder X.market i → (s : ℕ) → s < all → v i s ≤ v i X.top

  -- what such a sale asks of the allocations of all
  pub record Setting (bits : ℕ) (al : List A) : Type 0 where
    pub ready : Ready X
    pub ranked : Ranked X.market X.member X.sets
    pub laid_out : LaidOut L X.market.many X.market.low bits
    pub small : all ≤ 16
    pub topped : X.top < all
    pub bundled : Bundled X.market (λ s. s < all) al
    pub someone : (a : A) × (a ∈ al)
    pub part : (e : Economy A) → e ∈ X.economies → Part X.market al e
    pub everybody : whole al ∈ X.economies
