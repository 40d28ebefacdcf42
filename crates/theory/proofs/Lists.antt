-- Laws of the greatest value (`most_upper`, `most-reached`, `most_is`), of kept members (`keep_in`, `keep_from`), of
-- the first that passes (`first_in`, `first_passes`, `first-before`, `first_such`), of the values of a list's members
-- (`map_same`, `most-map`, `first-map`), of ordered lists, of members and sums by their places (`at_in`, `in_at`,
-- `sum-list`), and of lists of values.
use mathlib.Core.Path.{◌≡◌, refl, sym, ap, ap₂, ◌∙◌}
use mathlib.Core.Bool.{Bool, true, ◌&&◌}
use mathlib.Core.List.Memᴰ
use mathlib.Core.List.Memᴰ.{head as here}
use mathlib.Core.List.Memᴰ.{tail as there}
use mathlib.Core.List.{List, [], ◌∷◌, ◌++◌, map}
use mathlib.Core.Logic.{◌⊎◌, inl, inr}
use Prim.Native.Nat.{ℕ, zero, suc, max, ◌+◌, ◌-◌, ◌≤◌, ◌<◌}
use native.Mathlib.Omega.{arith}
use native.Mathlib.Decide.{dec_le, ℕ_discrete}
use lib.ListN.{length, take, get_or, replicate}
use Rattle.theory.specs.Sums.{pick, when, sum, Among}
use Rattle.theory.specs.Lists.{◌∈◌, most, sum_over, keep, first, Ordered, tabulate, up_to}
use Rattle.theory.specs.Tests.{some}
use Rattle.theory.proofs.Sums.{sum_same, sum-shift}
use Rattle.theory.proofs.Tests.{by_test}

module _ {A : Type 0} where
  pub most_upper : (f : A → ℕ) {a : A} {l : List A} → a ∈ l → f a ≤ most f l
  most_upper f (here e) = omega (arith, ap f e)
  most_upper f (there m) = omega (arith, most_upper f m)

  pub most_bound : (f : A → ℕ) (n : ℕ) (l : List A) → ((a : A) → a ∈ l → f a ≤ n) → most f l ≤ n
  most_bound f n [] h = omega arith
  most_bound f n (a ∷ l) h = omega (arith, h a (here refl), most_bound f n l (λ b m. h b (there m)))

  -- an upper bound that is reached is the greatest value
  pub most_is : (f : A → ℕ) (n : ℕ) {a : A} {l : List A} → ((b : A) → b ∈ l → f b ≤ n) → a ∈ l → f a ≡ n → most f l ≡ n
  most_is f n {a} {l} h m e = omega (arith, most_bound f n l h, most_upper f m)

  pub most_same : (f g : A → ℕ) (l : List A) → ((a : A) → a ∈ l → f a ≡ g a) → most f l ≡ most g l
  most_same f g [] h = refl
  most_same f g (a ∷ l) h = rw (h a (here refl), most_same f g l (λ b m. h b (there m)))

  pub most_subset : (f : A → ℕ) {l k : List A} → ((a : A) → a ∈ l → a ∈ k) → most f l ≤ most f k
  most_subset f {l} {k} h = most_bound f (most f k) l (λ a m. most_upper f (h a m))

  Reached : (A → ℕ) → List A → Type 0
  Reached f l = (b : A) × (b ∈ l) × (f b ≡ most f l)

  reached : (f : A → ℕ) (a : A) (l : List A) → Reached f (a ∷ l)
  unfolding Reached
  reached f a [] = (a, here refl, omega arith)
  reached f a (c ∷ l) =
      let (b, m, e) = reached f c l in
      elim (dec_le (f a) (f b)) [ yes h ↦ (b, there m, omega arith) | no h ↦ (a, here refl, omega arith) ]

  -- the greatest value over a list that has a member is reached
  pub most-reached : (f : A → ℕ) {a : A} {l : List A} → a ∈ l → (b : A) × (b ∈ l) × (f b ≡ most f l)
  unfolding Reached
  most-reached f (here {x = x} {xs = xs} e) = reached f x xs
  most-reached f (there {x = x} {xs = xs} m) = reached f x xs

  pub keep_in : (t : A → Bool) {a : A} {l : List A} → a ∈ l → t a ≡ true → a ∈ keep t l
  keep_in t (here e) p = rw (rw e at p) (here e)
  keep_in t (there {x = x} m) p = by_test (t x) (λ e. rw e (there (keep_in t m p))) (λ e. rw e (keep_in t m p))

  pub keep_from : (t : A → Bool) {a : A} (l : List A) → a ∈ keep t l → (a ∈ l) × (t a ≡ true)
  keep_from t [] m = absurd (Memᴰ.not-nil m)
  keep_from t {a} (x ∷ l) m =
      by_test (t x)
      (λ e. elim (Memᴰ.cases_cons (rw e at m)) [
        | inl q ↦ (here q, ap t q ∙ e)
        | inr n ↦ let (n', p) = keep_from t l n in (there n', p)
      ])
      (λ e. let (n, p) = keep_from t l (rw e at m) in (there n, p))

  -- the greatest of those that pass
  pub most-when : (f : A → ℕ) (t : A → Bool) (l : List A) → most (λ a. when (t a) (f a)) l ≡ most f (keep t l)
  most-when f t [] = refl
  most-when f t (a ∷ l) = by_test (t a) (λ e. rw (e, most-when f t l)) (λ e. rw e (omega (arith, most-when f t l)))

  -- some of those that pass
  pub some-when : (u t : A → Bool) (l : List A) → some (λ a. t a && u a) l ≡ some u (keep t l)
  some-when u t [] = refl
  some-when u t (a ∷ l) = by_test (t a) (λ e. rw (e, some-when u t l)) (λ e. rw (e, some-when u t l))

  -- one member more
  pub kept_last : (t : A → Bool) (l : List A) (a : A) →
      length (keep t (l ++ (a ∷ []))) ≡ pick (t a) (suc (length (keep t l))) (length (keep t l))
  kept_last t [] a = by_test (t a) (λ e. rw e) (λ e. rw e)
  kept_last t (x ∷ l) a =
      by_test (t x) (λ e. rw (e, kept_last t l a) (by_test (t a) (λ f. rw f) (λ f. rw f)))
      (λ e. rw e (kept_last t l a))

  pub first_same : (t u : A → Bool) (d : A) (l : List A) → ((a : A) → a ∈ l → t a ≡ u a) → first t d l ≡ first u d l
  first_same t u d [] h = refl
  first_same t u d (a ∷ l) h = rw (h a (here refl), first_same t u d l (λ b m. h b (there m)))

  pub first_in : (t : A → Bool) (d : A) {a : A} {l : List A} → a ∈ l → t a ≡ true → first t d l ∈ l
  first_in t d (here e) p = rw (rw e at p) (here refl)
  first_in t d (there {x = x} m) p = by_test (t x) (λ e. rw e (here refl)) (λ e. rw e (there (first_in t d m p)))

  pub first_passes : (t : A → Bool) (d : A) {a : A} {l : List A} → a ∈ l → t a ≡ true → t (first t d l) ≡ true
  first_passes t d (here e) p = let q = rw e at p in rw q q
  first_passes t d (there {x = x} m) p = by_test (t x) (λ e. rw e e) (λ e. rw e (first_passes t d m p))

  -- what holds of `d` and of each member holds of the first
  pub first_such : (P : A → Type 0) (t : A → Bool) (d : A) (l : List A) → P d → ((a : A) → a ∈ l → P a) →
      P (first t d l)
  first_such P t d [] p h = p
  first_such P t d (a ∷ l) p h =
      by_test (t a) (λ e. rw e (h a (here refl))) (λ e. rw e (first_such P t d l p (λ b q. h b (there q))))

  -- in an ordered list, the first that passes comes before every other that does
  pub first-before : (t : A → Bool) (d : A) (R : A → A → Type 0) {a : A} {l : List A} →
      Ordered R l → a ∈ l → t a ≡ true → (a ≡ first t d l) ⊎ R (first t d l) a
  first-before t d R o (here e) p = rw (rw e at p) (inl e)
  first-before t d R {a} o (there {x = x} m) p =
      by_test (t x) (λ e. rw e (inr (o.0 a m))) (λ e. rw e (first-before t d R o.1 m p))

-- the values of a list's members
module _ {A B : Type 0} where
  pub map_same : {f g : A → B} (l : List A) → ((a : A) → a ∈ l → f a ≡ g a) → map f l ≡ map g l
  map_same [] h = refl
  map_same (a ∷ l) h = rw (h a (here refl), map_same l (λ b q. h b (there q)))

  pub most-map : (g : A → B) (f : B → ℕ) (l : List A) → most f (map g l) ≡ most (λ a. f (g a)) l
  most-map g f [] = refl
  most-map g f (a ∷ l) = ap (max (f (g a))) (most-map g f l)

  pub first-map : (g : A → B) (t : B → Bool) (d : A) (l : List A) →
      first t (g d) (map g l) ≡ g (first (λ a. t (g a)) d l)
  first-map g t d [] = refl
  first-map g t d (a ∷ l) = by_test (t (g a)) (λ e. rw e refl) (λ e. rw e (first-map g t d l))

pub ordered_append : {A : Type 0} (R : A → A → Type 0) (l k : List A) → Ordered R l → Ordered R k →
    ((a b : A) → a ∈ l → b ∈ k → R a b) → Ordered R (l ++ k)
ordered_append R [] k o p h = p
ordered_append R (a ∷ l) k o p h = (
  λ b m. elim (Memᴰ.append_cases l m) [ inl n ↦ o.0 b n | inr n ↦ h a b (here refl) n ],
  ordered_append R l k o.1 p (λ b c m n. h b c (there m) n),
)

-- members by their places, d where there is none
module _ {A : Type 0} (d : A) where
  pub at_in : (l : List A) (j : ℕ) → j < length l → get_or l j d ∈ l
  at_in [] j h = absurd (omega arith)
  at_in (a ∷ l) zero h = here refl
  at_in (a ∷ l) (suc j) h = there (at_in l j (omega arith))

  pub in_at : (l : List A) {a : A} → a ∈ l → (j : ℕ) × (j < length l) × (get_or l j d ≡ a)
  in_at [] m = absurd (Memᴰ.not-nil m)
  in_at (x ∷ l) m =
      elim (Memᴰ.cases_cons m) [
        | inl e ↦ (0, omega arith, sym e)
        | inr n ↦ let (j, h, e) = in_at l n in (suc j, omega arith, e)
      ]

-- a sum over a list's members is one over its places, from 1 on
pub sum-list : (f : ℕ → ℕ) (l : List ℕ) → sum_over f l ≡ sum (length l) 1 (λ k. f (get_or l (k - 1) 0))
sum-list f [] = refl
sum-list f (x ∷ l) =
    let rest = sum-shift (length l) 1 (λ k. f (get_or (x ∷ l) (k - 1) 0)) in
    let same =
    sum_same (length l) 1 (λ k. f (get_or (x ∷ l) (suc k - 1) 0)) (λ k. f (get_or l (k - 1) 0)) (λ k r.
    let e : suc k - 1 ≡ suc (k - 1) = omega arith in ap (λ j. f (get_or (x ∷ l) j 0)) e) in
    omega (arith, sum-list f l, rest, same)

pub zeros-at : (n k : ℕ) → ◌≡◌ {A = ℕ} (get_or (replicate n 0) k 0) 0
zeros-at zero k = refl
zeros-at (suc n) zero = refl
zeros-at (suc n) (suc k) = zeros-at n k

pub all_zero : (n : ℕ) (l : List ℕ) → length l ≡ n → ((x : ℕ) → x ∈ l → x ≡ 0) → l ≡ replicate n 0
all_zero zero [] e h = refl
all_zero zero (x ∷ l) e h = absurd (omega arith)
all_zero (suc n) [] e h = absurd (omega arith)
all_zero (suc n) (x ∷ l) e h = ap₂ (λ x l. x ∷ l) (h x (here refl)) (all_zero n l (omega arith) (λ y m. h y (there m)))

pub tabulate-at : {A : Type 0} (k s : ℕ) (f : ℕ → A) (j : ℕ) (d : A) → j < k → get_or (tabulate k s f) j d ≡ f (s + j)
tabulate-at zero s f j d h = absurd (omega arith)
tabulate-at (suc k) s f zero d h = ap f (omega arith)
tabulate-at (suc k) s f (suc j) d h = tabulate-at k (suc s) f j d (omega arith) ∙ ap f (omega arith)

pub tabulate-length : {A : Type 0} (k s : ℕ) (f : ℕ → A) → length (tabulate k s f) ≡ k
tabulate-length zero s f = refl
tabulate-length (suc k) s f = ap suc (tabulate-length k (suc s) f)

pub tabulate_same : {A : Type 0} (k s : ℕ) (f g : ℕ → A) → ((j : ℕ) → Among k s j → f j ≡ g j) →
    tabulate k s f ≡ tabulate k s g
tabulate_same zero s f g h = refl
tabulate_same (suc k) s f g h = rw (h s (omega arith), tabulate_same k (suc s) f g (λ j r. h j (omega arith)))

-- the last value apart, the first ones, and a range that begins one later
pub tabulate-last : {A : Type 0} (k s : ℕ) (f : ℕ → A) → tabulate (suc k) s f ≡ tabulate k s f ++ (f (s + k) ∷ [])
tabulate-last zero s f = ap (λ i. f i ∷ []) (omega arith)
tabulate-last (suc k) s f =
    ap (λ l. f s ∷ l) (tabulate-last k (suc s) f ∙ ap (λ i. tabulate k (suc s) f ++ (f i ∷ [])) (omega arith))

pub tabulate-take : {A : Type 0} (j k s : ℕ) (f : ℕ → A) → j ≤ k → take j (tabulate k s f) ≡ tabulate j s f
tabulate-take zero k s f h = refl
tabulate-take (suc j) zero s f h = absurd (omega arith)
tabulate-take (suc j) (suc k) s f h = ap (λ l. f s ∷ l) (tabulate-take j k (suc s) f (omega arith))

pub tabulate-shift : {A : Type 0} (k s : ℕ) (f : ℕ → A) → tabulate k (suc s) f ≡ tabulate k s (λ i. f (suc i))
tabulate-shift zero s f = refl
tabulate-shift (suc k) s f = ap (λ l. f (suc s) ∷ l) (tabulate-shift k (suc s) f)

-- what holds of each value holds of what stands at each place, if also past the end
pub tabulate_each : {A : Type 0} (P : A → Type 0) (d : A) (k s : ℕ) (f : ℕ → A) → P d →
    ((i : ℕ) → Among k s i → P (f i)) → (j : ℕ) → P (get_or (tabulate k s f) j d)
tabulate_each P d zero s f past h j = past
tabulate_each P d (suc k) s f past h zero = h s (omega arith)
tabulate_each P d (suc k) s f past h (suc j) = tabulate_each P d k (suc s) f past (λ i r. h i (omega arith)) j

pub tabulate_in : {A : Type 0} (k s : ℕ) (f : ℕ → A) (i : ℕ) → Among k s i → f i ∈ tabulate k s f
tabulate_in zero s f i r = absurd (omega arith)
tabulate_in (suc k) s f i r =
    elim (ℕ_discrete i s) [ yes e ↦ here (ap f e) | no n ↦ there (tabulate_in k (suc s) f i (omega arith)) ]

pub up_to_in : (k s : ℕ) {i : ℕ} → Among k s i → i ∈ up_to k s
up_to_in k s {i} r = tabulate_in k s (λ i. i) i r

pub up_to_from : (k s : ℕ) {i : ℕ} → i ∈ up_to k s → Among k s i
up_to_from zero s m = absurd (Memᴰ.not-nil m)
up_to_from (suc k) s m =
    elim (Memᴰ.cases_cons m) [ inl e ↦ omega arith | inr n ↦ omega (arith, up_to_from k (suc s) n) ]

pub first_ordered : (k s : ℕ) → Ordered ◌<◌ (up_to k s)
first_ordered zero s = tt
first_ordered (suc k) s = (λ b h. omega (arith, up_to_from k (suc s) h), first_ordered k (suc s))
