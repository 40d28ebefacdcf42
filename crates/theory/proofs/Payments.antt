-- What a bidder pays, reckoned by prices or by worths, is the same: theorem 1, `pays_alike`, for equilibria with and
-- without the bidder. Nothing is cut off at 0: by worths `pays_some`, for monotone worths, and by prices
-- `discount_exact` and `pays_exact`.
use mathlib.Core.Path.{◌≡◌, refl}
use mathlib.Core.Logic.{◌↔◌, ◌≢◌}
use mathlib.Core.List.{List}
use Prim.Native.Nat.{ℕ, ◌+◌}
use native.Mathlib.Omega.{arith}
use borrow.Author.Tests.{eq-eqb, ne_eqb}
use Rattle.theory.specs.Lists.{◌∈◌, most}
use Rattle.theory.specs.Markets.{Market, Table, Bidder, sum_of, total, Efficient, Covered, Equilibrium, Pays}
use Rattle.theory.specs.Markets.{worth_pay, discount, price_pay, Monotone, Leaves, other_than, only}
use Rattle.theory.proofs.Sums.{sum_but, sum_swap}
use Rattle.theory.proofs.Lists.{most_upper, most_subset}
use Rattle.theory.proofs.Duality.{duality}

only-without : (i : ℕ) (b : ℕ → ℕ) → only (other_than i) b i ≡ 0
only-without i b = rw (eq-eqb i i refl)

only-other : (i : ℕ) (b : ℕ → ℕ) (j : ℕ) → j ≢ i → only (other_than i) b j ≡ b j
only-other i b j n = rw (ne_eqb j i n)

module _ {A : Type 0} (M : Market A) (i : ℕ) (bidder : Bidder M i) where
  pub sum-without : (b : ℕ → ℕ) → sum_of M (only (other_than i) b) + b i ≡ sum_of M b
  sum-without b =
      omega (
        arith,
        only-without i b,
        sum_swap M.many M.low (only (other_than i) b) b i bidder (λ j q n. only-other i b j n),
      )

  module _ (al al_i : List A) where
    -- theorem 1
    pub pays_alike : (v p : Table) (b : ℕ → ℕ) {x y : A} →
        Covered M v p b al → x ∈ al → Equilibrium M v p b al x →
        Covered M v p (only (other_than i) b) al_i → y ∈ al_i → Equilibrium M v p (only (other_than i) b) al_i y →
        (n : ℕ) → Pays M p i al al_i x n ↔ Pays M v i al al_i x n
    pays_alike v p b c m q c_i m_i q_i n =
        let d = duality M v p b al c m q in
        let d_i = duality M v p (only (other_than i) b) al_i c_i m_i q_i in
        let s = sum-without b in
        let e = q.serves i bidder in
        (λ h. omega arith, λ h. omega arith)

    -- with monotone worths the payment for an efficient allocation is a number: nothing is cut off
    pub pays_some : (within : ℕ → ℕ → Type 0) (t : Table) → Monotone M within t → Leaves M within i al al_i →
        {x : A} → x ∈ al → Efficient M t al x → Pays M t i al al_i x (worth_pay M t i al al_i x)
    pays_some within t mono leaves {x} m e =
        let (c, k, larger) = leaves x m in
        omega (
          arith,
          most_upper (total M t) k,
          sum_but M.many M.low (λ j. t j (M.holds x j)) (λ j. t j (M.holds c j)) i bidder
              (λ j q n. mono j q (M.holds x j) (M.holds c j) (larger j q n)),
        )

-- the allocations without a bidder are some of all: nothing is cut off in a discount, nor in the price less it
module _ {A : Type 0} (M : Market A) (t : Table) {al al_i : List A} (fewer : (a : A) → a ∈ al_i → a ∈ al) where
  pub discount_exact : discount M t al al_i + most (total M t) al_i ≡ most (total M t) al
  discount_exact = omega (arith, most_subset (total M t) fewer)

  pub pays_exact : (i : ℕ) (x : A) (n : ℕ) → Pays M t i al al_i x n → n + discount M t al al_i ≡ t i (M.holds x i)
  pays_exact i x n h = omega (arith, discount_exact)

  pub pays_discount : (i : ℕ) (x : A) (n : ℕ) → Pays M t i al al_i x n → price_pay M t i al al_i x ≡ n
  pays_discount i x n h = omega (arith, pays_exact i x n h)
