-- What stands in a table: for a buyer it is the price of the buyers' rows (`entry-price`), and a bidder's row is one of
-- the table's (`row_fits`).
use mathlib.Core.Path.{◌≡◌}
use mathlib.Core.List.{List}
use Prim.Native.Nat.{ℕ, ◌+◌, ◌*◌, ◌≤◌}
use native.Mathlib.Omega.{arith}
use lib.Dec.{eqb}
use borrow.Author.Tests.{eqb-true, eqb-false}
use Rattle.theory.proofs.Tests.{by_test}
use Rattle.owners.specs.Prices.{rows, row, entry, buyer_rows, price}
use Rattle.owners.proofs.Prices.{entry_row}

pub entry-price : (t : List ℕ) (i s : ℕ) → 1 ≤ i → entry t i s ≡ price (buyer_rows 6) t i s
entry-price t i s h = entry_row 1 6 i h t s

-- bidders go from `low` on
pub row_fits : (low i L : ℕ) → low ≤ i → i ≤ 6 → 16 * rows low ≤ L → 16 * row i + 16 ≤ L
row_fits low i L lo hi fits =
    by_test (eqb low 0)
    (λ e. let f = rw e at fits in by_test (eqb i 0) (λ z. rw z (omega arith)) (λ z. rw z (omega arith)))
    (λ e. let f = rw e at fits in
    by_test (eqb i 0) (λ z. absurd (eqb-false low 0 e (omega (arith, eqb-true i 0 z))))
    (λ z. rw z (omega (arith, eqb-false i 0 z))))
