-- An array that `array::from_fn` makes by calls of a closure that changes nothing: place j holds the closure's answer at
-- j, so that the array is the table of them (`made_by`).
use mathlib.Core.Path.{◌≡◌, ◌∙◌, subst}
use mathlib.Core.List.{List}
use Prim.Native.Nat.{ℕ, zero, suc, ◌+◌, ◌<◌}
use native.Mathlib.Omega.{arith}
use lib.ListN.{get_or}
use denote.Param.Members.{Mut}
use Rattle.std.specs.Fn.{Called}
use Rattle.std.specs.Array.{IsFromFnResult, IsFromFnResultFrom}
use Rattle.theory.specs.Lists.{tabulate}
use Rattle.theory.proofs.Loops.{filled_all}

module _ {F : Type 0} (g : Mut F (ℕ × Unit {0}) ℕ) (f : ℕ → ℕ) (n : ℕ) (c : F)
    (calls : (i y : ℕ) (d : F) → i < n → Called g c (i, tt) y d → (y ≡ f i) × (d ≡ c)) where
  each_made : (l : List ℕ) (i k : ℕ) → i + k ≡ n → IsFromFnResultFrom g c l i k → (j : ℕ) → j < k →
      get_or l (i + j) 0 ≡ f (i + j)
  each_made l i zero e made j h = absurd (omega arith)
  each_made l i (suc k) e (d, y, at, call, rest) zero h =
      let z : i + 0 ≡ i = omega arith in
      rw z (at.1 0 ∙ (calls i y d (omega arith) call).0)
  each_made l i (suc k) e (d, y, at, call, rest) (suc j) h =
      let z : i + suc j ≡ i + 1 + j = omega arith in
      let same = (calls i y d (omega arith) call).1 in
      rw z (each_made l (i + 1) k (omega arith) (subst (λ d. IsFromFnResultFrom g d l (i + 1) k) same rest) j (omega arith))

  pub made_by : (l : List ℕ) → IsFromFnResult g c l n → l ≡ tabulate n 0 f
  made_by l made =
      filled_all f n n l (omega arith)
      (record {
        long = made.long;
        done = λ j h. let z : 0 + j ≡ j = omega arith in rw z at (each_made l 0 n (omega arith) made.each j h);
      })
