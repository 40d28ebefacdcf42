-- What passed and failed tests say, and the other way round: `Means`, with a law for each way to make a test.
-- `least_none` and `least_found` say what `least` answers (`Least`); `by_test` is a proof by cases of a test. Two tests
-- of a range are one (`every_both`), and `some-last` has a list's last member apart.
use mathlib.Core.Path.{◌≡◌, refl, sym, subst, ◌∙◌}
use mathlib.Core.Logic.{◌↔◌, ◌⊎◌, inl, inr}
use mathlib.Core.Bool.{Bool, true, false, not, ◌&&◌, ◌||◌, true≢false, and-false}
use mathlib.Core.List.Memᴰ
use mathlib.Core.List.Memᴰ.{head as here}
use mathlib.Core.List.Memᴰ.{tail as there}
use mathlib.Core.List.{List, [], ◌∷◌, ◌++◌, map}
use Prim.Native.Nat.{ℕ, zero, suc, ◌≤◌, ◌<◌}
use native.Mathlib.Omega.{arith}
use native.Mathlib.Decide.{ℕ_discrete}
use lib.Dec.{eqb, leb}
use borrow.Author.Tests.{eqb-true, eq-eqb, leb-true, le-leb, not-true}
use Rattle.theory.specs.Sums.{Among}
use Rattle.theory.specs.Lists.{◌∈◌}
use Rattle.theory.specs.Tests.{◌⊃◌, every, some, least}

-- a proof by cases of a test, each with its equation
pub by_test : {P : Type 0} (x : Bool) → (x ≡ true → P) → (x ≡ false → P) → P
by_test true h k = h refl
by_test false h k = k refl

-- two tests that pass alike are equal
pub same_test : (x y : Bool) → (x ≡ true → y ≡ true) → (y ≡ true → x ≡ true) → x ≡ y
same_test true y h k = sym (h refl)
same_test false true h k = k refl
same_test false false h k = refl

pub fails : {P : Type 0} {x : Bool} → x ≡ true → x ≡ false → P
fails p q = absurd (true≢false (sym p ∙ q))

-- what a test means, put together from what its parts mean
abbrev pub Means : Bool → Type 0 → Type 0
Means x P = (x ≡ true) ↔ P

pub means_via : {x : Bool} {P Q : Type 0} → Means x P → (P → Q) → (Q → P) → Means x Q
means_via h f g = (λ e. f (h.0 e), λ q. h.1 (g q))

pub itself : (x : Bool) → Means x (x ≡ true)
itself x = (λ e. e, λ e. e)

pub not_means : {x : Bool} {P : Type 0} → Means x P → Means (not x) (P → ⊥)
not_means {x} h = (λ e a. fails (h.1 a) (not-true x e), λ f. by_test x (λ p. absurd (f (h.0 p))) (λ p. rw p))

pub eqb_means : (m n : ℕ) → Means (eqb m n) (m ≡ n)
eqb_means m n = (eqb-true m n, eq-eqb m n)

pub leb_means : (m n : ℕ) → Means (leb m n) (m ≤ n)
leb_means m n = (leb-true m n, le-leb m n)

pub and_means : {x y : Bool} {P Q : Type 0} → Means x P → Means y Q → Means (x && y) (P × Q)
and_means {x} {y} h k = (
  λ e. by_test x (λ p. (h.0 p, k.0 (rw p at e))) (λ p. fails (rw p at e) refl),
  λ r. rw (h.1 r.0, k.1 r.1),
)

pub or_means : {x y : Bool} {P Q : Type 0} → Means x P → Means y Q → Means (x || y) (P ⊎ Q)
or_means {x} {y} h k = (
  λ e. by_test x (λ p. inl (h.0 p)) (λ p. inr (k.0 (rw p at e))),
  λ r. by_test x (λ p. rw p) (λ p. rw p (elim r [ inl a ↦ fails (h.1 a) p | inr b ↦ k.1 b ])),
)

pub imp_means : {x y : Bool} {P Q : Type 0} → Means x P → Means y Q → Means (x ⊃ y) (P → Q)
imp_means {x} {y} h k =
    (λ e a. k.0 (rw (h.1 a) at e), λ f. by_test x (λ p. rw p (k.1 (f (h.0 p)))) (λ p. rw p))

pub imp_fails : (x y : Bool) → (x ⊃ y) ≡ false → (x ≡ true) × (y ≡ false)
imp_fails true y e = (refl, e)
imp_fails false y e = fails refl e

pub every_means : (k s : ℕ) {t : ℕ → Bool} {P : ℕ → Type 0} →
    ((i : ℕ) → Among k s i → Means (t i) (P i)) → Means (every k s t) ((i : ℕ) → Among k s i → P i)
every_means zero s h = (λ e i r. absurd (omega arith), λ f. refl)
every_means (suc k) s {t} {P} h =
    means_via (and_means (h s (omega arith)) (every_means k (suc s) (λ i r. h i (omega arith))))
    (λ c i r. elim (ℕ_discrete s i) [ yes e ↦ subst P e c.0 | no n ↦ c.1 i (omega arith) ])
    (λ f. (f s (omega arith), λ i r. f i (omega arith)))

pub some_means : {A : Type 0} {t : A → Bool} {P : A → Type 0} (l : List A) →
    ((a : A) → a ∈ l → Means (t a) (P a)) → Means (some t l) ((a : A) × (a ∈ l) × P a)
some_means [] h = (λ e. fails e refl, λ c. absurd (Memᴰ.not-nil c.1))
some_means {P = P} (x ∷ l) h =
    means_via (or_means (h x (here refl)) (some_means l (λ a m. h a (there m))))
    (λ r. elim r [ inl p ↦ (x, here refl, p) | inr c ↦ (c.0, there c.1, c.2) ])
    (λ c. elim (Memᴰ.cases_cons c.1) [ inl e ↦ inl (subst P e c.2) | inr n ↦ inr (c.0, n, c.2) ])

-- where not all pass, one fails
pub every_fails : (k s : ℕ) (t : ℕ → Bool) → every k s t ≡ false → (i : ℕ) × Among k s i × (t i ≡ false)
every_fails zero s t h = fails refl h
every_fails (suc k) s t h =
    by_test (t s)
    (λ e. let (i, r, p) = every_fails k (suc s) t (rw e at h) in (i, omega arith, p))
    (λ e. (s, omega arith, e))

pub every_same : (k s : ℕ) (t u : ℕ → Bool) → ((i : ℕ) → Among k s i → t i ≡ u i) → every k s t ≡ every k s u
every_same zero s t u h = refl
every_same (suc k) s t u h = rw (h s (omega arith), every_same k (suc s) t u (λ i r. h i (omega arith)))

pub every_both : (k s : ℕ) (t u : ℕ → Bool) → (every k s t && every k s u) ≡ every k s (λ i. t i && u i)
every_both zero s t u = refl
every_both (suc k) s t u = rw (← every_both k (suc s) t u) (swap (t s) (u s) (every k (suc s) t) (every k (suc s) u))
  where
    swap : (a b c d : Bool) → ((a && c) && (b && d)) ≡ ((a && b) && (c && d))
    swap true true c d = refl
    swap true false c d = and-false c
    swap false b c d = refl

pub some_same : {A : Type 0} (t u : A → Bool) (l : List A) → ((a : A) → a ∈ l → t a ≡ u a) → some t l ≡ some u l
some_same t u [] h = refl
some_same t u (a ∷ l) h = rw (h a (here refl), some_same t u l (λ b m. h b (there m)))

pub some-map : {A B : Type 0} (t : B → Bool) (f : A → B) (l : List A) → some t (map f l) ≡ some (λ a. t (f a)) l
some-map t f [] = refl
some-map t f (a ∷ l) = rw (some-map t f l)

pub some-last : {A : Type 0} (t : A → Bool) (l : List A) (a : A) → some t (l ++ (a ∷ [])) ≡ (some t l || t a)
some-last t [] a = by_test (t a) (λ e. rw e) (λ e. rw e)
some-last t (x ∷ l) a = by_test (t x) (λ e. rw e) (λ e. rw e (some-last t l a))

-- n is the least of the k numbers from s on that passes
pub record Least (k s : ℕ) (t : ℕ → Bool) (n : ℕ) : Type 0 where
  pub among : Among k s n
  pub passes : t n ≡ true
  pub before : (i : ℕ) → s ≤ i → i < n → t i ≡ false

pub least_none : (k s : ℕ) (t : ℕ → Bool) → least k s t ≡ 0 → (i : ℕ) → Among k s i → t i ≡ false
least_none zero s t h i r = absurd (omega arith)
least_none (suc k) s t h i r =
    by_test (t s)
    (λ p. let z : suc s ≡ 0 = rw p at h in absurd (omega arith))
    (λ p. elim (ℕ_discrete s i) [ yes e ↦ rw e at p | no n ↦ least_none k (suc s) t (rw p at h) i (omega arith) ])

pub least_found : (k s : ℕ) (t : ℕ → Bool) (n : ℕ) → least k s t ≡ suc n → Least k s t n
least_found zero s t n h = absurd (omega arith)
least_found (suc k) s t n h =
    by_test (t s)
    (λ p.
    let z : suc s ≡ suc n = rw p at h in
    let e : s ≡ n = omega arith in
    record { among = omega arith; passes = rw e at p; before = λ i l u. absurd (omega arith) })
    (λ p. let r = least_found k (suc s) t n (rw p at h) in
    record {
      among = omega arith;
      passes = r.passes;
      before = λ i l u. elim (ℕ_discrete s i) [ yes e ↦ rw e at p | no q ↦ r.before i (omega arith) u ];
    })

-- what is found is found among more
pub least_more : (k k' s : ℕ) (t : ℕ → Bool) (n : ℕ) → k ≤ k' → least k s t ≡ suc n → least k' s t ≡ suc n
least_more zero k' s t n l h = absurd (omega arith)
least_more (suc k) zero s t n l h = absurd (omega arith)
least_more (suc k) (suc k') s t n l h =
    by_test (t s) (λ p. rw p (rw p at h)) (λ p. rw p (least_more k k' (suc s) t n (omega arith) (rw p at h)))

pub least_same : (k s : ℕ) (t u : ℕ → Bool) → ((i : ℕ) → Among k s i → t i ≡ u i) → least k s t ≡ least k s u
least_same zero s t u h = refl
least_same (suc k) s t u h = rw (h s (omega arith), least_same k (suc s) t u (λ i r. h i (omega arith)))
