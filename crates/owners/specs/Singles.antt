-- Single lots, of which some may stay unsold, by lists of ninety-six worths. Offers the table of such a list
-- (`worth_table`), and what is asked of it (`AtMost`, `Topped`).
use Rattle.std.specs.Prelude.{List, ℕ, ◌-◌, ◌^◌, ◌≤◌, ◌<◌, get_or}
use Rattle.theory.specs.Sums.{Among}
use Rattle.theory.specs.Markets.{Table}
use Rattle.owners.specs.Prices.{buyer_rows, price}

-- the table of a list of worths, sixteen to a buyer, in which the empty bundle is worth nothing
abbrev pub worth_table : List ℕ → Table
worth_table ws i s = price (buyer_rows 6) ws i s

-- each of a list is at most c
abbrev pub AtMost : ℕ → List ℕ → Type 0
AtMost c l = (k : ℕ) → get_or l k 0 ≤ c

-- all lots together are worth the most to each buyer
abbrev pub Topped : ℕ → ℕ → List ℕ → Type 0
Topped m n ws = (i : ℕ) → Among m 1 i → (s : ℕ) → s < 2 ^ n → worth_table ws i s ≤ worth_table ws i (2 ^ n - 1)
