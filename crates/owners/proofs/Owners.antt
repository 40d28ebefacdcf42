-- Which owner lists there are (`allocation_in`, `allocation_from`), what a buyer holds in one (`bundle_lacks`,
-- `bundle_none`, `bundle_past`), and what is left of one when owners are dropped and their lots `given` away.
use mathlib.Core.Path.{◌≡◌, refl, sym, ap, subst, ◌∙◌}
use mathlib.Core.Logic.{◌≢◌, ◌⊎◌, inl, inr}
use mathlib.Core.Bool.{Bool, true, false, not, ◌&&◌, and-false}
use mathlib.Core.List.{List, [], ◌∷◌}
use mathlib.Core.List.Memᴰ
use mathlib.Core.List.Memᴰ.{head as here}
use mathlib.Core.List.Memᴰ.{tail as there}
use Prim.Native.Nat.{ℕ, zero, suc, ◌+◌, ◌≤◌}
use native.Mathlib.Omega.{arith}
use lib.Dec.{eqb}
use lib.ListN.{length, take, get_or, replicate}
use lib.Seq.{take-nil}
use borrow.Author.Tests.{eqb-true, eq-eqb, ne_eqb}
use Rattle.theory.specs.Sums.{pick, when}
use Rattle.theory.specs.Lists.{◌∈◌, keep}
use Rattle.theory.specs.Markets.{other_than}
use Rattle.theory.proofs.Lists.{keep_in}
use Rattle.theory.proofs.Tests.{by_test, fails, Means, means_via, itself, and_means, not_means, eqb_means}
use Rattle.owners.specs.Owners.{with_owner, spread, allocations, bundle_from, lacks}

owner_in : (o : ℕ) {a : List ℕ} {al : List (List ℕ)} → a ∈ al → (o ∷ a) ∈ with_owner o al
owner_in o (here e) = here (ap (λ a. o ∷ a) e)
owner_in o (there m) = there (owner_in o m)

pub owner_from : (o : ℕ) {x : List ℕ} (al : List (List ℕ)) → x ∈ with_owner o al → (a : List ℕ) × (a ∈ al) × (x ≡ o ∷ a)
owner_from o [] m = absurd (Memᴰ.not-nil m)
owner_from o (a ∷ al) m =
    elim (Memᴰ.cases_cons m) [
      | inl e ↦ (a, here refl, e)
      | inr n ↦ let (b, k, e) = owner_from o al n in
          (b, there k, e)
    ]

pub spread_in : {o : ℕ} {os : List ℕ} {a : List ℕ} {al : List (List ℕ)} → o ∈ os → a ∈ al → (o ∷ a) ∈ spread os al
spread_in {a = a} (here {x = x} e) n = Memᴰ.append_left _ (Memᴰ.cast (ap (λ o. o ∷ a) e) (owner_in x n))
spread_in {al = al} (there {x = x} m) n = Memᴰ.append_right (with_owner x al) (spread_in m n)

pub spread_from : {x : List ℕ} (os : List ℕ) (al : List (List ℕ)) → x ∈ spread os al → (o : ℕ) × (a : List ℕ) × (o ∈ os)
    × (a ∈ al) × (x ≡ o ∷ a)
spread_from [] al m = absurd (Memᴰ.not-nil m)
spread_from (o ∷ os) al m =
    elim (Memᴰ.append_cases (with_owner o al) m) [
      | inl n ↦ let (a, k, e) = owner_from o al n in (o, a, here refl, k, e)
      | inr n ↦ let (p, a, r, k, e) = spread_from os al n in (p, a, there r, k, e)
    ]

-- the lists of n owners among os
pub allocation_in : (os : List ℕ) (n : ℕ) (a : List ℕ) → length a ≡ n → ((o : ℕ) → o ∈ a → o ∈ os) →
    a ∈ allocations os n
allocation_in os zero [] l h = here refl
allocation_in os zero (o ∷ a) l h = absurd (omega arith)
allocation_in os (suc n) [] l h = absurd (omega arith)
allocation_in os (suc n) (o ∷ a) l h =
    spread_in (h o (here refl)) (allocation_in os n a (omega arith) (λ p m. h p (there m)))

pub allocation_from : (os : List ℕ) (n : ℕ) {a : List ℕ} → a ∈ allocations os n → (length a ≡ n)
    × ((o : ℕ) → o ∈ a → o ∈ os)
allocation_from os zero m = rw (Memᴰ.eq_of_singleton m) (refl, λ o n. absurd (Memᴰ.not-nil n))
allocation_from os (suc n) m =
    let (o, b, r, k, e) = spread_from os (allocations os n) m in
    let (l, h) = allocation_from os n k in
    rw e (ap suc l, λ p q. elim (Memᴰ.cases_cons q) [ inl z ↦ Memᴰ.cast z r | inr w ↦ h p w ])

pub lacks_means : (i : ℕ) (a : List ℕ) → Means (lacks i a) ((o : ℕ) → o ∈ a → o ≢ i)
lacks_means i [] = (λ e o m. absurd (Memᴰ.not-nil m), λ h. refl)
lacks_means i (o ∷ a) =
    means_via (and_means (not_means (eqb_means o i)) (lacks_means i a))
    (λ c p m. elim (Memᴰ.cases_cons m) [ inl e ↦ subst (λ z. z ≢ i) (sym e) c.0 | inr n ↦ c.1 p n ])
    (λ h. (h o (here refl), λ p m. h p (there m)))

pub bundle_lacks : (share : ℕ → ℕ) (j i : ℕ) (a : List ℕ) → lacks i a ≡ true → bundle_from share j i a ≡ 0
bundle_lacks share j i [] h = refl
bundle_lacks share j i (o ∷ a) h =
    let (p, q) = (and_means (not_means (eqb_means o i)) (itself (lacks i a))).0 h in
    rw (ne_eqb o i p) (omega (arith, bundle_lacks share (suc j) i a q))

-- who owns nothing of any share
pub bundle_none : (share : ℕ → ℕ) → ((j : ℕ) → 1 ≤ share j) → (j i : ℕ) (a : List ℕ) → bundle_from share j i a ≡ 0 →
    lacks i a ≡ true
bundle_none share some j i [] h = refl
bundle_none share some j i (o ∷ a) h =
    by_test (eqb o i)
    (λ e. let z : share j + bundle_from share (suc j) i a ≡ 0 = rw e at h in absurd (omega (arith, some j)))
    (λ e. rw e (bundle_none share some (suc j) i a (omega (arith, rw e at h))))

-- places of nobody change no buyer's bundle
pub bundle_past : (share : ℕ → ℕ) (j i n : ℕ) (os : List ℕ) → 1 ≤ i → ((k : ℕ) → n ≤ k → get_or os k 0 ≡ 0) →
    bundle_from share j i (take n os) ≡ bundle_from share j i os
bundle_past share j i n [] some h = ap (bundle_from share j i) (take-nil n)
bundle_past share j i zero (o ∷ os) some h =
    let other = ne_eqb o i (λ e. omega (arith, h 0 (omega arith))) in
    rw other (omega (arith, bundle_past share (suc j) i 0 os some (λ k l. h (suc k) (omega arith))))
bundle_past share j i (suc n) (o ∷ os) some h =
    ap (λ x. when (eqb o i) (share j) + x) (bundle_past share (suc j) i n os some (λ k l. h (suc k) (omega arith)))

-- a list with the lots of some owners given to k: only those that pass keep theirs
abbrev pub given : (ℕ → Bool) → ℕ → List ℕ → List ℕ
given t k [] = []
given t k (o ∷ a) = pick (t o) o k ∷ given t k a

pub given_length : (t : ℕ → Bool) (k : ℕ) (a : List ℕ) → length (given t k a) ≡ length a
given_length t k [] = refl
given_length t k (o ∷ a) = ap suc (given_length t k a)

pub given_from : (t : ℕ → Bool) (k : ℕ) {o : ℕ} (a : List ℕ) → o ∈ given t k a → (o ≡ k) ⊎ ((o ∈ a) × (t o ≡ true))
given_from t k [] m = absurd (Memᴰ.not-nil m)
given_from t k (p ∷ a) m =
    elim (Memᴰ.cases_cons m) [
      | inl e ↦ by_test (t p) (λ h. let z = rw h at e in inr (here z, ap t z ∙ h)) (λ h. inl (rw h at e))
      | inr n ↦ elim (given_from t k a n) [ inl z ↦ inl z | inr c ↦ inr (there c.0, c.1) ]
    ]

owner_given : (t : ℕ → Bool) (k o i : ℕ) → i ≢ k → eqb (pick (t o) o k) i ≡ (t i && eqb o i)
owner_given t k o i n =
    let other : eqb k i ≡ false = ne_eqb k i (λ q. n (sym q)) in
    by_test (eqb o i)
    (λ e. let z = eqb-true o i e in by_test (t o) (λ h. rw (h, e, ap t (sym z) ∙ h))
    (λ h. rw (h, ap t (sym z) ∙ h, other)))
    (λ e. rw (e, and-false (t i)) (by_test (t o) (λ h. rw (h, e)) (λ h. rw (h, other))))

pub bundle_given : (share : ℕ → ℕ) (t : ℕ → Bool) (k j i : ℕ) (a : List ℕ) → i ≢ k → bundle_from share j i (given t k a)
    ≡ when (t i) (bundle_from share j i a)
bundle_given share t k j i [] n = by_test (t i) (λ h. rw h) (λ h. rw h)
bundle_given share t k j i (o ∷ a) n =
    rw (owner_given t k o i n, bundle_given share t k (suc j) i a n)
    (by_test (t i) (λ h. rw h) (λ h. rw h))

pub given_in : (os : List ℕ) (n : ℕ) (t : ℕ → Bool) {k : ℕ} → k ∈ os → {a : List ℕ} → a ∈ allocations os n →
    given t k a ∈ allocations os n
given_in os n t {k} one {a} h =
    let (l, owned) = allocation_from os n h in
    allocation_in os n (given t k a) (given_length t k a ∙ l)
    (λ o w. elim (given_from t k a w) [ inl z ↦ Memᴰ.cast z one | inr c ↦ owned o c.0 ])

pub given_lacks : (t : ℕ → Bool) (k i : ℕ) (a : List ℕ) → k ≢ i → (t i ≡ true → lacks i a ≡ true) →
    lacks i (given t k a) ≡ true
given_lacks t k i a z h =
    (lacks_means i (given t k a)).1
    (λ o w e. elim (given_from t k a w) [
      | inl q ↦ z (sym q ∙ e)
      | inr c ↦ (lacks_means i a).0 (h (ap t (sym e) ∙ c.1)) o c.0 e
    ])

-- i left out, its lots with 0
pub without_in : (os : List ℕ) (n i : ℕ) → 0 ∈ os → 0 ≢ i → {a : List ℕ} → a ∈ allocations os n →
    given (other_than i) 0 a ∈ keep (lacks i) (allocations os n)
without_in os n i nobody z {a} h =
    keep_in (lacks i) (given_in os n (other_than i) nobody h)
    (given_lacks (other_than i) 0 i a z (λ e. fails e (ap not (eq-eqb i i refl))))

-- all lots owned by one
pub some_allocation : (os : List ℕ) (k : ℕ) → k ∈ os → (n : ℕ) → replicate n k ∈ allocations os n
some_allocation os k one zero = here refl
some_allocation os k one (suc n) = spread_in one (some_allocation os k one n)
