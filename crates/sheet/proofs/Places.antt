-- A table's worths as a sheet has them (`cell`): what stands at a place of the empty bundle, an absent buyer, an absent
-- bundle, and one that there is, and a bound.
use mathlib.Core.Path.{◌≡◌, sym}
use Prim.Native.Nat.{ℕ, ◌^◌, ◌<◌, ◌≤◌}
use native.Mathlib.Omega.{arith}
use lib.Dec.{ltb}
use borrow.Author.Tests.{lt-ltb, le-ltb, ltb-true}
use Rattle.theory.specs.Markets.{Table}
use Rattle.theory.proofs.Tests.{by_test}
use Rattle.sheet.specs.Tables.{cell}

module _ (m n : ℕ) (v : Table) where
  pub cell_nobody : (i s : ℕ) → m ≤ i → 0 ≡ cell m n v i s
  cell_nobody i s h = rw (le-ltb i m h)

  pub cell_nothing : (i s : ℕ) → 2 ^ n ≤ s → 0 ≡ cell m n v i s
  cell_nothing i s g = by_test (ltb i m) (λ t. rw (t, le-ltb s (2 ^ n) g)) (λ t. rw t)

  pub cell_there : (i s : ℕ) → i < m → s < 2 ^ n → v i s ≡ cell m n v i s
  cell_there i s h g = rw (lt-ltb i m h, lt-ltb s (2 ^ n) g)

  pub cell_empty : (i s : ℕ) → (i < m → v i 0 ≡ 0) → s ≡ 0 → 0 ≡ cell m n v i s
  cell_empty i s free e =
      rw e
      (by_test (ltb i m)
      (λ t. let z = free (ltb-true i m t) in by_test (ltb 0 (2 ^ n)) (λ u. rw (t, u) (sym z)) (λ u. rw (t, u)))
      (λ t. rw t))

  pub cell_small : (c : ℕ) → ((i s : ℕ) → i < m → s < 2 ^ n → v i s ≤ c) → (i s : ℕ) → cell m n v i s ≤ c
  cell_small c small i s =
      by_test (ltb i m)
      (λ t. by_test (ltb s (2 ^ n))
      (λ u. rw (t, u) (small i s (ltb-true i m t) (ltb-true s (2 ^ n) u)))
      (λ u. rw (t, u) (omega arith)))
      (λ t. rw t (omega arith))
