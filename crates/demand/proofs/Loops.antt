-- A set given as a sum of powers, as a loop that counts up from k to n gathers it (`Gathered`). T is what the whole
-- loop answers.
use mathlib.Core.Path.{◌≡◌, refl, sym, ◌∙◌}
use mathlib.Core.Bool.{Bool, true, false}
use Prim.Native.Nat.{ℕ, ◌+◌, ◌-◌, ◌^◌, ◌≤◌, ◌<◌}
use native.Mathlib.Nat.{zero-add, sub-zero}
use native.Mathlib.Numerals.{add-one}
use native.Mathlib.Omega.{arith}
use Rattle.theory.specs.Sums.{when, sum}
use Rattle.theory.proofs.Loops.{sum_more, sum_done}

-- the numbers below k that pass, as a sum of powers, and what is left of the sum of all below n
pub record Gathered (t : ℕ → Bool) (n k set T : ℕ) : Type 0 where
  pub within : k ≤ n
  pub small : set < 2 ^ k
  pub rest : set + sum (n - k) k (λ s. when (t s) (2 ^ s)) ≡ T

module _ (t : ℕ → Bool) (n : ℕ) where
  pub gathered_none : Gathered t n 0 0 (sum n 0 (λ s. when (t s) (2 ^ s)))
  gathered_none = record { within = omega arith; small = omega arith; rest = rw (sub-zero, zero-add) refl }

  module _ (k set T : ℕ) (g : Gathered t n k set T) where
    module _ (h : k < n) (b : Bool) (same : b ≡ t k) (set' : ℕ) where
      pub gathered_in : b ≡ true → (p : ℕ) → p ≡ 2 ^ k → set' ≡ set + p → Gathered t n (k + 1) set' T
      gathered_in has p e q =
          let one : when (t k) (2 ^ k) ≡ p = rw (sym same ∙ has, e) refl in
          record {
            within = omega arith;
            small = rw (add-one k) (omega (arith, g.small));
            rest = sum_more n k h (λ s. when (t s) (2 ^ s)) set set' T g.rest (omega arith);
          }

      pub gathered_out : b ≡ false → set' ≡ set → Gathered t n (k + 1) set' T
      gathered_out lacks q =
          let none : when (t k) (2 ^ k) ≡ 0 = rw (sym same ∙ lacks) refl in
          record {
            within = omega arith;
            small = rw (add-one k) (omega (arith, g.small));
            rest = sum_more n k h (λ s. when (t s) (2 ^ s)) set set' T g.rest (omega arith);
          }

    pub gathered_all : n ≤ k → set ≡ T
    gathered_all h = sum_done n k h (λ s. when (t s) (2 ^ s)) set T g.rest
