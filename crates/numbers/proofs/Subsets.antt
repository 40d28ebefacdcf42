-- Bundles as bit sets: worths that do not fall when one lot is added do not fall when several are, for any number of
-- lots (`subset_monotone`). By halving: first the lots but the lowest, then the lowest. So two numbers with the same
-- bits are equal (`bits_same`).
use mathlib.Core.Path.{◌≡◌, sym, ap, ◌∙◌}
use mathlib.Core.Bool.{true}
use Prim.Native.Nat.{ℕ, zero, suc, ◌+◌, ◌-◌, ◌*◌, ◌/◌, ◌%◌, ◌^◌, ◌≤◌, ◌<◌}
use native.Mathlib.Nat.{div-div-eq-div-mul, le-div_iff_mul-le, one-le-pow, pow-succ'}
use native.Mathlib.Omega.{arith}
use native.Mathlib.Decide.{ℕ_discrete, dec_lt}
use lib.Dec.{lit<}
use lib.Pow.{pow_mono}
use borrow.Author.Tests.{eqb-true, eqb-false, eq-eqb}
use Rattle.theory.specs.Sums.{when}
use Rattle.theory.proofs.Tests.{by_test}
use Rattle.numbers.specs.Numbers.{bit}

pub bit_half : (j x : ℕ) → bit (suc j) x ≡ bit j (x / 2)
bit_half j x = rw (pow-succ', ← div-div-eq-div-mul)

pub bit_le : (j x : ℕ) → bit j x ≡ true → 2 ^ j ≤ x
bit_le j x b =
    let one : 1 ≤ x / 2 ^ j = omega (arith, eqb-true (x / 2 ^ j % 2) 1 b) in
    omega (arith, (le-div_iff_mul-le (one-le-pow j 2 (lit< tt))).0 one)

-- a number below 2 ^ n has none but its first n bits
pub bit_below : (n j x : ℕ) → x < 2 ^ n → bit j x ≡ true → j < n
bit_below n j x h b =
    elim (dec_lt j n) [
      | yes l ↦ l
      | no l ↦
          absurd (omega (arith, bit_le j x b, pow_mono {i = n} {j = j} (omega arith)))
    ]

-- and one that is not 0 has one of them
pub bit-some : (n x : ℕ) → 1 ≤ x → x < 2 ^ n → (j : ℕ) × (j < n) × (bit j x ≡ true)
bit-some zero x some h = absurd (omega arith)
bit-some (suc n) x some h =
    elim (ℕ_discrete (x % 2) 1) [
      | yes e ↦ (0, omega arith, eq-eqb (x / 1 % 2) 1 (omega arith))
      | no e ↦
          let (j, l, b) = bit-some n (x / 2) (omega arith) (omega arith) in
          (suc j, omega arith, bit_half j x ∙ b)
    ]

-- a bit as a number
pub one_bit : (j x : ℕ) → when (bit j x) 1 ≡ x / 2 ^ j % 2
one_bit j x =
    by_test (bit j x)
    (λ b. rw b (omega (arith, eqb-true (x / 2 ^ j % 2) 1 b)))
    (λ b. rw b (omega (arith, eqb-false (x / 2 ^ j % 2) 1 b)))

lowest_le : (s t : ℕ) → (bit 0 s ≡ true → bit 0 t ≡ true) → s % 2 ≤ t % 2
lowest_le s t h =
    by_test (bit 0 s) (λ b. omega (arith, eqb-true (t / 1 % 2) 1 (h b))) (λ b. omega (arith, eqb-false (s / 1 % 2) 1 b))

pub subset_monotone : (n : ℕ) (w : ℕ → ℕ) → ((j s : ℕ) → j < n → s < 2 ^ n → bit j s ≡ true → w (s - 2 ^ j) ≤ w s) →
    (s t : ℕ) → t < 2 ^ n → ((j : ℕ) → j < n → bit j s ≡ true → bit j t ≡ true) → s < 2 ^ n → w s ≤ w t
subset_monotone zero w step s t k sub h = let e : s ≡ t = omega arith in omega (arith, ap w e)
subset_monotone (suc n) w step s t k sub h =
    let but_lowest : w (s % 2 + 2 * (s / 2)) ≤ w (s % 2 + 2 * (t / 2)) =
    subset_monotone n (λ x. w (s % 2 + 2 * x))
    (λ j x l m b.
    let y = s % 2 + 2 * x in
    let half : y / 2 ≡ x = omega arith in
    let less : y - 2 ^ suc j ≡ s % 2 + 2 * (x - 2 ^ j) = omega (arith, bit_le j x b) in
    rw less at (step (suc j) y (omega arith) (omega arith) (bit_half j y ∙ ap (bit j) half ∙ b)))
    (s / 2) (t / 2) (omega arith) (λ j l b. sym (bit_half j t) ∙ sub (suc j) (omega arith) (bit_half j s ∙ b))
    (omega arith) in
    let whole : s % 2 + 2 * (s / 2) ≡ s = omega arith in
    let le = lowest_le s t (sub 0 (omega arith)) in
    elim (ℕ_discrete (s % 2) (t % 2)) [
      | yes e ↦ let same : s % 2 + 2 * (t / 2) ≡ t = omega arith in omega (arith, ap w whole, ap w same)
      | no e ↦
          let less : t - 2 ^ 0 ≡ s % 2 + 2 * (t / 2) = omega arith in
          omega (arith, ap w whole, ap w less, step 0 t (omega arith) k (eq-eqb (t / 1 % 2) 1 (omega arith)))
    ]

pub bits_same : (n s t : ℕ) → s < 2 ^ n → t < 2 ^ n → ((j : ℕ) → j < n → bit j s ≡ bit j t) → s ≡ t
bits_same n s t h g e =
    let le : (s t : ℕ) → s < 2 ^ n → t < 2 ^ n → ((j : ℕ) → j < n → bit j s ≡ true → bit j t ≡ true) → s ≤ t =
    λ s t h g sub. subset_monotone n (λ x. x) (λ j x _ _ _. omega arith) s t g sub h in
    omega (arith, le s t h g (λ j l b. sym (e j l) ∙ b), le t s g h (λ j l b. e j l ∙ b))
