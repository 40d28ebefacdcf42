-- The raise of a round, step by step, on tables of six rows (`Rows`): of one buyer's row of prices (`raised_row`), the
-- members that two sets have in common (`Common`), and who is present in an economy, as a set (`AllBut`).
use Rattle.std.specs.Prelude.{◌≡◌, List, ℕ, ◌^◌, ◌≤◌, ◌<◌, eqb, length}
use Rattle.theory.specs.Kept.{shared}
use Rattle.owners.specs.Prices.{buyer_rows}
use Rattle.owners.specs.Owners.{member}
use Rattle.owners.specs.Quick.{raised_by, present_in, roster}
use Rattle.owners.specs.Singles.{worth_table}

-- a table of the buyers' six rows of sixteen numbers
abbrev pub Rows : List ℕ → Type 0
Rows t = length t ≡ 96

-- the prices ps after a raise of buyer i alone, which has `left` left
abbrev pub raised_row : ℕ → List ℕ → ℕ → ℕ → List ℕ → List ℕ
raised_row all ws i left ps = raised_by (buyer_rows 6) all (worth_table ws) (eqb i) (λ _. left) ps

-- r counts the members of the set n that the set x has too, whatever the number of buyers that x is a set of
pub record Common (x n r : ℕ) : Type 0 where
  pub few : r ≤ 6
  pub is : (m : ℕ) → x < 2 ^ m → r ≡ shared (roster m) x n

-- r is the set of those of six buyers that are present in economy e
abbrev pub AllBut : ℕ → ℕ → Type 0
AllBut e r = (i : ℕ) → 1 ≤ i → i ≤ 6 → member r i ≡ present_in e i
