-- The owner lists stand in the order that their owners have, by the first lot at which two differ
-- (`allocations_ordered`); which lot that is (`comes_before`).
use mathlib.Core.Path.{◌≡◌, refl, sym, ap, subst, subst₂}
use mathlib.Core.Logic.{inl, inr}
use mathlib.Core.List.Memᴰ
use mathlib.Core.List.{List, [], ◌∷◌}
use Prim.Native.Nat.{ℕ, zero, suc, ◌<◌}
use native.Mathlib.Omega.{arith}
use lib.ListN.{length, take, get_or}
use Rattle.theory.specs.Lists.{Ordered}
use Rattle.theory.proofs.Lists.{ordered_append}
use Rattle.owners.specs.Owners.{with_owner, spread, allocations, ComesBefore}
use Rattle.owners.proofs.Owners.{owner_from, spread_from}

module _ (earlier : ℕ → ℕ → Type 0) where
  owner_ordered : (o : ℕ) (al : List (List ℕ)) → Ordered (ComesBefore earlier) al →
      Ordered (ComesBefore earlier) (with_owner o al)
  owner_ordered o [] h = tt
  owner_ordered o (a ∷ al) h = (
    λ x m. let (b, k, e) = owner_from o al m in subst (ComesBefore earlier (o ∷ a)) (sym e)
        (inr (refl, h.0 b k)),
    owner_ordered o al h.1,
  )

  spread_ordered : (os : List ℕ) (al : List (List ℕ)) → Ordered earlier os → Ordered (ComesBefore earlier) al →
      Ordered (ComesBefore earlier) (spread os al)
  spread_ordered [] al o h = tt
  spread_ordered (p ∷ os) al o h =
      ordered_append (ComesBefore earlier) (with_owner p al) (spread os al) (owner_ordered p al h)
      (spread_ordered os al o.1 h)
      (λ x y m k.
      let (a, _, e) = owner_from p al m in
      let (q, b, r, _, d) = spread_from os al k in
      subst₂ (ComesBefore earlier) (sym e) (sym d) (inl (o.0 q r)))

  pub allocations_ordered : (os : List ℕ) → Ordered earlier os → (n : ℕ) →
      Ordered (ComesBefore earlier) (allocations os n)
  allocations_ordered os o zero = (λ a m. absurd (Memᴰ.not-nil m), tt)
  allocations_ordered os o (suc n) = spread_ordered os (allocations os n) o (allocations_ordered os o n)

-- the first lot at which two lists differ
pub comes_before : (earlier : ℕ → ℕ → Type 0) (x y : List ℕ) → ComesBefore earlier x y →
    (j : ℕ) × (j < length x) × (take j y ≡ take j x) × earlier (get_or x j 0) (get_or y j 0)
comes_before earlier [] y c = absurd c
comes_before earlier (o ∷ x) [] c = absurd c
comes_before earlier (o ∷ x) (p ∷ y) (inl h) = (0, omega arith, refl, h)
comes_before earlier (o ∷ x) (p ∷ y) (inr (e, c)) =
    let (j, h, same, less) = comes_before earlier x y c in
    (suc j, omega arith, rw e (ap (λ l. p ∷ l) same), less)
