-- Powers, products and remainders.
use mathlib.Core.Path.{◌≡◌, ◌∙◌}
use Prim.Native.Nat.{ℕ, zero, suc, ◌+◌, ◌-◌, ◌*◌, ◌/◌, ◌%◌, ◌^◌, ◌<◌, ◌≤◌}
use native.Mathlib.Nat.{add-zero, one-mul, suc-mul, mul-le-mul, mul-le-mul_right, pow-le-pow_right, div-eq_of_lt}
use native.Mathlib.Nat.{mod-eq_of_lt, mod-lt, div-lt_iff_lt-mul, mul-add-div_right, mul-add-mod_self_right}
use native.Mathlib.Omega.{arith}
use lib.Dec.{lit<}
use lib.Pow.{pow_mono}
use Rattle.numbers.specs.Numbers.{Is}

pub pow_small : (n : ℕ) → n ≤ 4 → 2 ^ n ≤ 16
pow_small n h = pow-le-pow_right {n = 2} (lit< tt) h

pub pow_some : (n : ℕ) → 1 ≤ 2 ^ n
pow_some n = pow-le-pow_right {n = 2} (lit< tt) {i = 0} {j = n} (omega arith)

pub size-some : (n : ℕ) → 1 ≤ n → 1 ≤ 2 ^ n - 1
size-some n h = omega (arith, pow-le-pow_right {n = 2} (lit< tt) {i = 1} {j = n} h)

pub shifted : (n : ℕ) → n ≤ 16 → 1 * 2 ^ n % 2 ^ 64 ≡ 2 ^ n
shifted n h = rw one-mul (mod-eq_of_lt (omega (arith, pow_mono {i = n} {j = 16} h)))

-- a power is no greater than a higher one
pub no_higher : {n r c : ℕ} → Is (2 ^ n) r c → (k : ℕ) → n ≤ k → Is (2 ^ n) r (2 ^ k)
no_higher {n = n} e k h = record { is = e.is; most = rw e.is (pow_mono {i = n} {j = k} h) }

pub product_small : (i l a b : ℕ) → i ≤ a → l ≤ b → i * l ≤ a * b
product_small i l a b h g = mul-le-mul h g

-- what is below a product has a factor to be below
pub factor_some : (k m z : ℕ) → k < m * z → 1 ≤ z
factor_some k m zero h = absurd (omega arith)
factor_some k m (suc z) h = omega arith

-- place k of lines of z places each is on line k / z, at k % z
pub line_below : (k m z : ℕ) → 1 ≤ z → k < m * z → k / z < m
line_below k m z h g = (div-lt_iff_lt-mul h).1 g

pub place_below : (k z : ℕ) → 1 ≤ z → k % z < z
place_below k z h = mod-lt k h

-- places counted through the lines, z to a line
module _ (z : ℕ) (some : 1 ≤ z) where
  pub count_below : (m i c : ℕ) → i < m → c < z → i * z + c < m * z
  count_below m i c h g = omega (arith, suc-mul i z, mul-le-mul_right {m = suc i} {n = m} z h)

  pub count-line : (i c : ℕ) → c < z → (i * z + c) / z ≡ i
  count-line i c g = mul-add-div_right some i c ∙ rw (div-eq_of_lt g) (add-zero i)

  pub count_place : (i c : ℕ) → c < z → (i * z + c) % z ≡ c
  count_place i c g = mul-add-mod_self_right i z c ∙ mod-eq_of_lt g
