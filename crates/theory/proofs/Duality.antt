-- Prices against worths in one economy: no total passes payoffs plus greatest takings (`total_bound`), an equilibrium
-- reaches it (`duality`), and then the efficient allocations are the equilibria (`efficient_equilibrium`).
-- Assumes payoffs that cover the worths.
use mathlib.Core.Path.{◌≡◌}
use mathlib.Core.Logic.{◌↔◌}
use mathlib.Core.List.{List}
use Prim.Native.Nat.{ℕ, ◌+◌, ◌≤◌}
use native.Mathlib.Omega.{arith}
use Rattle.theory.specs.Lists.{◌∈◌, most}
use Rattle.theory.specs.Markets.{Market, Table, sum_of, total, Efficient, Covered, Equilibrium}
use Rattle.theory.proofs.Sums.{sum_mono, sum_same, sum_add, sum_tight}
use Rattle.theory.proofs.Lists.{most_upper, most_is}

module _ {A : Type 0} (M : Market A) (v p : Table) (b : ℕ → ℕ) (al : List A) where
  -- worths, and payoffs plus prices, bidder by bidder
  abbrev worths : A → ℕ → ℕ
  worths a i = v i (M.holds a i)

  abbrev shares : A → ℕ → ℕ
  shares a i = b i + p i (M.holds a i)

  shares_sum : (a : A) → sum_of M (shares a) ≡ sum_of M b + total M p a
  shares_sum a = sum_add M.many M.low b (λ i. p i (M.holds a i))

  pub equilibrium_total : {a : A} → Equilibrium M v p b al a → total M v a ≡ sum_of M b + most (total M p) al
  equilibrium_total {a} q =
      omega (arith, shares_sum a, sum_same M.many M.low (worths a) (shares a) q.serves, q.takes)

  module _ (covered : Covered M v p b al) where
    pub total_bound : {a : A} → a ∈ al → total M v a ≤ sum_of M b + total M p a
    total_bound {a} m = omega (arith, shares_sum a, sum_mono M.many M.low (worths a) (shares a) (covered a m))

    pub duality : {a : A} → a ∈ al → Equilibrium M v p b al a →
        most (total M v) al ≡ sum_of M b + most (total M p) al
    duality m q =
        most_is (total M v) _ (λ c n. omega (arith, total_bound n, most_upper (total M p) n)) m (equilibrium_total q)

    -- where the worths reach payoffs plus greatest takings, an efficient allocation is an equilibrium
    pub tight_equilibrium : sum_of M b + most (total M p) al ≤ most (total M v) al →
        {a : A} → a ∈ al → Efficient M v al a → Equilibrium M v p b al a
    tight_equilibrium full {a} n e =
        let up = most_upper (total M p) n in
        record {
          takes = omega (arith, total_bound n);
          serves = sum_tight M.many M.low (worths a) (shares a) (covered a n) (omega (arith, shares_sum a));
        }

    -- where there is an equilibrium, the efficient allocations are the equilibria
    pub efficient_equilibrium : {x a : A} → x ∈ al → Equilibrium M v p b al x → a ∈ al →
        Efficient M v al a ↔ Equilibrium M v p b al a
    efficient_equilibrium m q n = (
      λ e. tight_equilibrium (omega (arith, duality m q)) n e,
      λ r. omega (arith, equilibrium_total r, duality m q),
    )
