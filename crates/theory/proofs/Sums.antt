-- Laws of what counts (`when_up`), and of sums over a range: order (`sum_mono`, `sum_tight`), addition (`sum_add`), the
-- last term (`sum-last`), a later range (`sum-shift`), and sums of functions that differ at one place (`sum_but`,
-- `sum_swap`).
use mathlib.Core.Path.{◌≡◌, refl, ap}
use mathlib.Core.Logic.{◌≢◌}
use mathlib.Core.Bool.{Bool, true, false}
use Prim.Native.Nat.{ℕ, zero, suc, ◌+◌, ◌*◌, ◌≤◌}
use native.Mathlib.Nat.{add-zero}
use native.Mathlib.Omega.{arith}
use native.Mathlib.Decide.{ℕ_discrete}
use Rattle.theory.specs.Sums.{when, sum, Among}

-- whoever counts on the left counts on the right
pub when_up : (x y : Bool) → (x ≡ true → y ≡ true) → when x 1 ≤ when y 1
when_up true y h = rw (h refl) (omega arith)
when_up false y h = omega arith

pub when_one : (x : Bool) → when x 1 ≤ 1
when_one x = when_up x true (λ _. refl)

pub sum_mono : (k s : ℕ) (f g : ℕ → ℕ) → ((i : ℕ) → Among k s i → f i ≤ g i) → sum k s f ≤ sum k s g
sum_mono zero s f g h = omega arith
sum_mono (suc k) s f g h = omega (arith, h s (omega arith), sum_mono k (suc s) f g (λ i r. h i (omega arith)))

pub sum_same : (k s : ℕ) (f g : ℕ → ℕ) → ((i : ℕ) → Among k s i → f i ≡ g i) → sum k s f ≡ sum k s g
sum_same k s f g h =
    omega (
      arith,
      sum_mono k s f g (λ i r. omega (arith, h i r)),
      sum_mono k s g f (λ i r. omega (arith, h i r)),
    )

pub sum_add : (k s : ℕ) (f g : ℕ → ℕ) → sum k s (λ i. f i + g i) ≡ sum k s f + sum k s g
sum_add zero s f g = refl
sum_add (suc k) s f g = omega (arith, sum_add k (suc s) f g)

pub sum_zero : (k s : ℕ) → sum k s (λ _. 0) ≡ 0
sum_zero zero s = refl
sum_zero (suc k) s = omega (arith, sum_zero k (suc s))

pub sum_const : (k s c : ℕ) → sum k s (λ _. c) ≡ c * k
sum_const zero s c = omega arith
sum_const (suc k) s c = omega (arith, sum_const k (suc s) c)

-- the last term apart, and a range that begins one later
pub sum-last : (k s : ℕ) (f : ℕ → ℕ) → sum (suc k) s f ≡ sum k s f + f (s + k)
sum-last zero s f = omega (arith, ap f (add-zero s))
sum-last (suc k) s f = let e : suc s + k ≡ s + suc k = omega arith in omega (arith, sum-last k (suc s) f, ap f e)

pub sum-shift : (k s : ℕ) (f : ℕ → ℕ) → sum k (suc s) f ≡ sum k s (λ i. f (suc i))
sum-shift zero s f = refl
sum-shift (suc k) s f = omega (arith, sum-shift k (suc s) f)

-- where f is at most g at every place but i, so are their sums without that place
pub sum_but : (k s : ℕ) (f g : ℕ → ℕ) (i : ℕ) → Among k s i →
    ((j : ℕ) → Among k s j → j ≢ i → f j ≤ g j) → sum k s f + g i ≤ sum k s g + f i
sum_but zero s f g i r h = omega arith
sum_but (suc k) s f g i r h =
    elim (ℕ_discrete s i) [
      | yes e ↦ omega (arith, ap f e, ap g e, sum_mono k (suc s) f g (λ j q. h j (omega arith) (omega arith)))
      | no n ↦ omega (arith, h s (omega arith) n, sum_but k (suc s) f g i (omega arith) (λ j q. h j (omega arith)))
    ]

-- two functions that differ at most at i
pub sum_swap : (k s : ℕ) (f g : ℕ → ℕ) (i : ℕ) → Among k s i →
    ((j : ℕ) → Among k s j → j ≢ i → f j ≡ g j) → sum k s f + g i ≡ sum k s g + f i
sum_swap k s f g i r h =
    omega (
      arith,
      sum_but k s f g i r (λ j q n. omega (arith, h j q n)),
      sum_but k s g f i r (λ j q n. omega (arith, h j q n)),
    )

-- where f is at most g at every place and its sum is no less, they are equal, place by place
pub sum_tight : (k s : ℕ) (f g : ℕ → ℕ) → ((i : ℕ) → Among k s i → f i ≤ g i) → sum k s g ≤ sum k s f →
    (i : ℕ) → Among k s i → f i ≡ g i
sum_tight k s f g h e i r = omega (arith, h i r, sum_but k s f g i r (λ j q n. h j q))

pub sum_part : (k s : ℕ) (f : ℕ → ℕ) (i : ℕ) → Among k s i → f i ≤ sum k s f
sum_part k s f i r = omega (arith, sum_but k s (λ _. 0) f i r (λ j q n. omega arith))
