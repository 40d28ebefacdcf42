-- Prices as one list, sixteen to a row, and the quote that bidders with worths v make of them, at any prices. Each
-- bidder has a row, and by it its bit in the number of a set. Offers `price`, `payoff`, `quote`, a round's raise
-- (`raised`), and when a list `Holds` the prices of a sale's payoffs.
use Rattle.std.specs.Prelude.{◌≡◌, Bool, true, ◌&&◌, ◌||◌, List, ℕ, suc, ◌+◌, ◌-◌, ◌*◌, ◌/◌, ◌^◌, ◌≤◌, ◌<◌, eqb, ltb}
use Rattle.std.specs.Prelude.{leb, get_or, replicate}
use Rattle.theory.specs.Sums.{pick, when, sum, Among}
use Rattle.theory.specs.Lists.{most, tabulate, up_to}
use Rattle.theory.specs.Markets.{Market, Table, Bidder, asks}
use Rattle.theory.specs.Auction.{Quote}
use Rattle.numbers.specs.Numbers.{bit}

-- which row each bidder has, whose a row is, and whether it is taken
pub record Layout : Type 0 where
  pub rows : ℕ
  pub row_of : ℕ → ℕ
  pub bidder_at : ℕ → ℕ
  pub taken : ℕ → Bool

-- the bidders have the rows that are taken, all of them below `bits`
pub record LaidOut (L : Layout) (many low bits : ℕ) : Type 0 where
  pub enough : bits ≤ L.rows
  pub each_bidder : (i : ℕ) → Among many low i → (L.row_of i < bits) × (L.taken (L.row_of i) ≡ true)
      × (L.bidder_at (L.row_of i) ≡ i)
  pub each_row : (j : ℕ) → L.taken j ≡ true → Among many low (L.bidder_at j) × (L.row_of (L.bidder_at j) ≡ j)

-- how many bidders there are from `low` on: m buyers (low is 1), and the house (0)
abbrev pub bidders : ℕ → ℕ → ℕ
bidders low m = pick (eqb low 0) (suc m) m

-- rule 1.6: tables have six rows of sixteen numbers, one to a buyer, and a seventh where there is a house
abbrev pub rows : ℕ → ℕ
rows low = pick (eqb low 0) 7 6

-- buyer i has row i - 1, and the house, bidder 0, row 6
abbrev pub row : ℕ → ℕ
row i = pick (eqb i 0) 6 (i - 1)

-- what stands in a table for bidder i and bundle s; the empty bundle has 0, whatever stands at its place
abbrev pub entry : List ℕ → Table
entry t i s = pick (eqb s 0) 0 (get_or t (16 * row i + s) 0)

-- the layout of m buyers, and of the house where `low` is 0
abbrev pub layout : ℕ → ℕ → Layout
layout low m =
    record {
      rows = rows low;
      row_of = λ i. pick (eqb low 0 && eqb i 0) 6 (i - 1);
      bidder_at = λ j. pick (eqb low 0 && eqb j 6) 0 (suc j);
      taken = λ j. (eqb low 0 && eqb j 6) || ltb j m;
    }

-- rule 1.6: m buyers, from 1 on, in six rows of sixteen prices
abbrev pub buyer_rows : ℕ → Layout
buyer_rows m = layout 1 m

module _ (L : Layout) where
  abbrev pub row_member : ℕ → ℕ → Bool
  row_member n i = bit (L.row_of i) n

  -- rule 1.6: the prices at the start
  abbrev pub zeros : List ℕ
  zeros = replicate (16 * L.rows) 0

  -- rule 1.5: the empty bundle costs 0
  abbrev pub price : List ℕ → Table
  price ps i s = pick (eqb s 0) 0 (get_or ps (16 * L.row_of i + s) 0)

  -- rule 4.1: worth less price, kept 65,535 higher, so that none is negative
  abbrev pub payoff : Table → List ℕ → Table
  payoff v ps i s = v i s + 65535 - price ps i s

  -- the greatest payoff, over the bundles below `all`
  abbrev pub best : ℕ → Table → List ℕ → ℕ → ℕ
  best all v ps i = most (payoff v ps i) (up_to all 0)

  -- rules 4.2 and 4.3: who demands what, and who is keen
  abbrev pub quote : ℕ → Table → List ℕ → Quote
  quote all v ps =
      record {
        prices = price ps;
        wants = λ i s. eqb (payoff v ps i s) (best all v ps i);
        keen = λ i. ltb 65535 (best all v ps i);
      }

  -- place k is that of a bidder and of a bundle that is not empty
  abbrev pub read : ℕ → ℕ → Bool
  read all k = L.taken (k / 16) && (leb 1 (k - 16 * (k / 16)) && ltb (k - 16 * (k / 16)) all)

  -- rule 4.11: the price at place k after a round; the place is that of row j and bundle s
  abbrev pub raised_at : ℕ → Table → (ℕ → Bool) → List ℕ → ℕ → ℕ → ℕ → ℕ
  raised_at all v set ps k j s =
      get_or ps k 0 + when (L.taken j &&
      (leb 1 s && (ltb s all && (set (L.bidder_at j) && (quote all v ps).wants (L.bidder_at j) s)))) 1

  abbrev pub raised : ℕ → Table → (ℕ → Bool) → List ℕ → List ℕ
  raised all v set ps = tabulate (16 * L.rows) 0 (λ k. raised_at all v set ps k (k / 16) (k - 16 * (k / 16)))

-- rule 4.2: a demand set, of bundles below `all`, as one number
abbrev pub demand_set : ℕ → Quote → ℕ → ℕ
demand_set all q i = sum all 0 (λ s. when (q.wants i s) (2 ^ s))

-- the list holds the prices of the payoffs π: worths v, bundles below `all`, of which `top` is worth most
pub record Holds {A : Type 0} (M : Market A) (L : Layout) (all top : ℕ) (v : Table) (ps : List ℕ)
    (π : ℕ → ℕ) : Type 0 where
  pub modest : (i : ℕ) → Bidder M i → π i ≤ v i top
  pub prices : (i : ℕ) → Bidder M i → (s : ℕ) → s < all → price L ps i s ≡ asks v π i s
