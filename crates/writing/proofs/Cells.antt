-- A place of the ninety-six that has a worth holds the table's, by the place's number (`place_worth`).
use mathlib.Core.Path.{◌≡◌, ap, ◌∙◌}
use mathlib.Core.Bool.{true}
use Prim.Native.Nat.{ℕ, suc, ◌-◌, ◌/◌, ◌%◌, ◌^◌, ◌<◌, ◌≤◌}
use native.Mathlib.Omega.{arith}
use borrow.Author.Tests.{lt-ltb, ltb-true}
use Rattle.theory.specs.Markets.{Table}
use Rattle.theory.proofs.Tests.{and_means, leb_means}
use Rattle.sheet.specs.Tables.{cell_at, has_worth}
use Rattle.sheet.proofs.Places.{cell_there}

module _ (m n : ℕ) (v : Table) (k : ℕ) (e : has_worth m n k ≡ true) where
  there : (1 ≤ k % 16) × (k / 16 < m) × (k % 16 < 2 ^ n)
  there =
      let (some, (line, bundle)) = (and_means (leb_means 1 (k % 16))
      (and_means (ltb-true (k / 16) m, lt-ltb (k / 16) m) (ltb-true (k % 16) (2 ^ n), lt-ltb (k % 16) (2 ^ n)))).0 e in
      (some, line, bundle)

  pub place_worth : v (k / 16) (suc (k % 16 - 1)) ≡ cell_at m n v k
  place_worth =
      let (some, line, bundle) = there in
      let whole : suc (k % 16 - 1) ≡ k % 16 = omega arith in
      ap (v (k / 16)) whole ∙ cell_there m n v (k / 16) (k % 16) line bundle
