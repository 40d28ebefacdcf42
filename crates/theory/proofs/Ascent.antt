-- A sale's own prices: a bidder demands what is worth its payoff or more (`asks_demand`), and a raise of what it
-- demands is 1 less payoff (`asks-raised`, `lower_exact`).
-- Some allocation always fits, `some_fits`: assumes monotone worths, and allocations in which bidders can be dropped.
use mathlib.Core.Path.{◌≡◌}
use mathlib.Core.Logic.{◌↔◌, inl, inr}
use mathlib.Core.Bool.{Bool, true, false, ◌&&◌}
use mathlib.Core.List.{List}
use Prim.Native.Nat.{ℕ, ◌+◌, ◌-◌, ◌≤◌}
use native.Mathlib.Omega.{arith}
use native.Mathlib.Decide.{dec_le}
use lib.Dec.{leb}
use borrow.Author.Tests.{leb-true, leb-false}
use Rattle.theory.specs.Sums.{when}
use Rattle.theory.specs.Lists.{◌∈◌, most}
use Rattle.theory.specs.Markets.{Market, Table, Bidder, sum_of, total, Equilibrium, Fits, Monotone, Drops, only}
use Rattle.theory.specs.Markets.{asks, lower}
use Rattle.theory.proofs.Tests.{by_test}
use Rattle.theory.proofs.Sums.{sum_mono, sum_same, sum_add}
use Rattle.theory.proofs.Lists.{most_upper, most_is, most-reached}

-- nothing is cut off where each member of the set has a payoff
pub lower_exact : (set : ℕ → Bool) (π : ℕ → ℕ) (i : ℕ) → (set i ≡ true → 1 ≤ π i) → when (set i) 1 + lower set π i ≡ π i
lower_exact set π i keen = by_test (set i) (λ e. rw e (omega (arith, keen e))) (λ e. rw e (omega arith))

module _ (v : Table) (π : ℕ → ℕ) (i : ℕ) where
  pub asks_cover : (s : ℕ) → v i s ≤ π i + asks v π i s
  asks_cover s = omega arith

  pub asks_demand : (s : ℕ) → (v i s ≡ π i + asks v π i s) ↔ (π i ≤ v i s)
  asks_demand s = (λ h. omega arith, λ h. omega arith)

  -- the best payoff, kept z higher, over a list of bundles that has one worth π
  pub asks-best : (z : ℕ) {top : ℕ} {l : List ℕ} → top ∈ l → π i ≤ v i top →
      most (λ s. v i s + z - asks v π i s) l ≡ π i + z
  asks-best z m h = most_is (λ s. v i s + z - asks v π i s) (π i + z) (λ s q. omega arith) m (omega arith)

  -- a round: each demanded bundle of a member costs 1 more
  pub asks-raised : (set : ℕ → Bool) → (set i ≡ true → 1 ≤ π i) → (s : ℕ) →
      asks v (lower set π) i s ≡ asks v π i s + when (set i && leb (π i) (v i s)) 1
  asks-raised set keen s =
      by_test (set i)
      (λ e. let k = keen e in
      by_test (leb (π i) (v i s))
      (λ d. rw (e, d) (omega (arith, leb-true (π i) (v i s) d)))
      (λ d. rw (e, d) (omega (arith, leb-false (π i) (v i s) d))))
      (λ e. rw e (omega arith))

module _ {A : Type 0} (M : Market A) where
  -- what a round takes from the payoffs
  pub lower-sum : (set : ℕ → Bool) (π : ℕ → ℕ) → ((i : ℕ) → Bidder M i → set i ≡ true → 1 ≤ π i) →
      sum_of M (λ i. when (set i) 1) + sum_of M (lower set π) ≡ sum_of M π
  lower-sum set π keen =
      omega (
        arith,
        sum_add M.many M.low (λ i. when (set i) 1) (lower set π),
        sum_same M.many M.low (λ i. when (set i) 1 + lower set π i) π (λ i r. lower_exact set π i (keen i r)),
      )

  -- an allocation that fits and serves every keen bidder present is an equilibrium of those present
  pub served_equilibrium : (v p : Table) (b : ℕ → ℕ) (present : ℕ → Bool) (al : List A) {a : A} →
      ((i : ℕ) → Bidder M i → (v i 0 ≡ 0) × (p i 0 ≡ 0)) →
      ((i : ℕ) → Bidder M i → present i ≡ false → M.holds a i ≡ 0) →
      (Fits M v p b al a
      × ((i : ℕ) → Bidder M i → present i ≡ true → 1 ≤ b i → v i (M.holds a i) ≡ b i + p i (M.holds a i)))
      ↔ Equilibrium M v p (only present b) al a
  served_equilibrium v p b present al {a} free absent = (
    λ h. record {
      takes = h.0.takes;
      serves = λ i r.
          by_test (present i)
          (λ e. rw e
          (elim (dec_le 1 (b i)) [
            | yes k ↦ h.1 i r e k
            | no k ↦ elim (h.0.gives i r) [ inl z ↦ rw z (omega (arith, free i r)) | inr q ↦ q ]
          ]))
          (λ e. rw (e, absent i r e) (omega (arith, free i r)));
    },
    λ q. (
      record {
        takes = q.takes;
        gives = λ i r. by_test (present i) (λ e. inr (rw e at (q.serves i r))) (λ e. inl (absent i r e));
      },
      λ i r e k. rw e at (q.serves i r),
    ),
  )

  -- take an allocation of greatest takings and drop every bundle that is not demanded: it cost nothing
  pub some_fits : (within : ℕ → ℕ → Type 0) (top : ℕ) (v : Table) (π : ℕ → ℕ) (al : List A) →
      Monotone M within v → Drops M within top al → ((i : ℕ) → Bidder M i → π i ≤ v i top) →
      {a : A} → a ∈ al → (x : A) × (x ∈ al) × Fits M v (asks v π) π al x
  some_fits within top v π al mono drops tops m =
      let price : A → ℕ → ℕ = λ a i. asks v π i (M.holds a i) in
      let (a, n, greatest) = most-reached (total M (asks v π)) m in
      let wants : ℕ → Bool = λ i. leb (π i) (v i (M.holds a i)) in
      let (c, k, kept, left) = drops a n wants in
      let more : (i : ℕ) → Bidder M i → wants i ≡ true → v i (M.holds a i) ≤ v i (M.holds c i) =
      λ i r e. mono i r (M.holds a i) (M.holds c i) (kept i r e) in
      let grown : (i : ℕ) → Bidder M i → price a i ≤ price c i =
      λ i r. by_test (wants i)
      (λ e. omega (arith, more i r e))
      (λ e. omega (arith, leb-false (π i) (v i (M.holds a i)) e)) in
      let fits : Fits M v (asks v π) π al c =
      record {
        takes = omega (arith, most_upper (total M (asks v π)) k, sum_mono M.many M.low (price a) (price c) grown);
        gives = λ i r. by_test (wants i)
            (λ e. inr (omega (arith, leb-true (π i) (v i (M.holds a i)) e, more i r e)))
            (λ e. elim (left i r e) [ inl z ↦ inl z | inr z ↦ inr (rw z (omega (arith, tops i r))) ]);
      } in
      (c, k, fits)
