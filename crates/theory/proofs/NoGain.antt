-- No bidder gains by another table than its true one (VCG is strategyproof): `no_gain`.
-- Assumes tables that differ at most for that bidder, and not where it has no part.
use mathlib.Core.Path.{◌≡◌}
use mathlib.Core.Logic.{◌≢◌}
use mathlib.Core.List.{List}
use Prim.Native.Nat.{ℕ, ◌+◌, ◌≤◌}
use native.Mathlib.Omega.{arith}
use Rattle.theory.specs.Lists.{◌∈◌}
use Rattle.theory.specs.Markets.{Market, Table, Bidder, total, Efficient, Pays}
use Rattle.theory.proofs.Sums.{sum_same, sum_swap}
use Rattle.theory.proofs.Lists.{most_upper, most_same}

-- v is the true table and w the other
module _
    {A : Type 0} (M : Market A) (i : ℕ) (bidder : Bidder M i) (al al_i : List A) (v w : Table)
    (others : (a : A) → a ∈ al → (j : ℕ) → Bidder M j → j ≢ i → v j (M.holds a j) ≡ w j (M.holds a j))
    (absent : (a : A) → a ∈ al_i → (j : ℕ) → Bidder M j → v j (M.holds a j) ≡ w j (M.holds a j)) where
  abbrev held : Table → A → ℕ → ℕ
  held t a j = t j (M.holds a j)

  -- worth less payment, by the true worths, compared without a minus
  pub no_gain : (x : A) {y : A} → y ∈ al → Efficient M w al y →
      (n k : ℕ) → Pays M v i al al_i x n → Pays M w i al al_i y k → v i (M.holds y i) + n ≤ v i (M.holds x i) + k
  no_gain x {y} m e n k h h' =
      omega (
        arith,
        most_upper (total M v) m,
        sum_swap M.many M.low (held v y) (held w y) i bidder (others y m),
        most_same (total M v) (total M w) al_i (λ a q. sum_same M.many M.low (held v a) (held w a) (absent a q)),
      )
