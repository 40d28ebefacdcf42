-- Digits by division: the number up to a column (`digit_small`, `digit-some`), and one more of the last digits
-- (`next_small`, `next_digit`, `other-digits`). A number in columns: after a blank (`columns_blank`), with all its
-- digits (`columns_full`), and each column by itself (`columns_each`).
use mathlib.Core.Path.{◌≡◌, refl, sym, ap, ap₂, ◌∙◌}
use mathlib.Core.Logic.{◌↔◌}
use mathlib.Core.Bool.{◌&&◌}
use mathlib.Core.List.{List, [], ◌∷◌}
use Prim.Native.Nat.{ℕ, zero, suc, ◌+◌, ◌*◌, ◌/◌, ◌%◌, ◌^◌, ◌≤◌, ◌<◌}
use native.Mathlib.Nat.{pow-succ', one-le-pow, one-mul, mul_assoc, mul_left_comm, div-lt_iff_lt-mul, le-div_iff_mul-le}
use native.Mathlib.Nat.{div-add-mod', mul-add-div_right, div-eq_of_lt, mod-lt, mod-eq_of_lt, mod-mod_of_dvd}
use native.Mathlib.Nat.{dvd-mul_left}
use native.Mathlib.Omega.{arith}
use lib.Dec.{leb, ltb, lit<}
use borrow.Author.Tests.{ltb-true, ltb-false, le-leb, lt-ltb, le-ltb}
use Rattle.theory.specs.Sums.{pick}
use Rattle.theory.proofs.Tests.{by_test}
use Rattle.fields.specs.Fields.{digits, columns}

pub tens_some : (k : ℕ) → 1 ≤ 10 ^ k
tens_some k = one-le-pow k 10 (lit< tt)

pub digit_small : (k w : ℕ) → (w / 10 ^ k < 10) ↔ (w < 10 ^ suc k)
digit_small k w = rw pow-succ' (div-lt_iff_lt-mul (tens_some k))

pub digit-some : (k w : ℕ) → (1 ≤ w / 10 ^ k) ↔ (10 ^ k ≤ w)
digit-some k w = rw one-mul at (le-div_iff_mul-le {x = 1} {y = w} (tens_some k))

-- one more of the last digits
module _ (k w : ℕ) where
  pub next_small : w % 10 ^ suc k / 10 ^ k < 10
  next_small = (digit_small k (w % 10 ^ suc k)).1 (mod-lt w (tens_some (suc k)))

  pub next_digit : 10 * (w / 10 ^ suc k) + w % 10 ^ suc k / 10 ^ k ≡ w / 10 ^ k
  next_digit =
      let q = w / 10 ^ suc k in
      let whole : 10 * q * 10 ^ k + w % 10 ^ suc k ≡ w =
      rw (mul_assoc, mul_left_comm 10 q (10 ^ k), ← pow-succ') (div-add-mod' w (10 ^ suc k)) in
      sym (mul-add-div_right (tens_some k) (10 * q) (w % 10 ^ suc k)) ∙ ap (λ x. x / 10 ^ k) whole

  pub other-digits : w % 10 ^ suc k % 10 ^ k ≡ w % 10 ^ k
  other-digits = mod-mod_of_dvd (10 ^ k) w (rw pow-succ' (dvd-mul_left (10 ^ k) 10))

  lone_digit : w / 10 ^ k % 10 ≡ w % 10 ^ suc k / 10 ^ k
  lone_digit = omega (arith, next_digit, next_small)

-- a number in k + 1 columns: after a blank, and with all its digits
pub columns_blank : (k w : ℕ) → 1 ≤ k → w < 10 ^ k → columns (suc k) w ≡ 32 ∷ columns k w
columns_blank k w some small = rw (le-leb 1 k some, lt-ltb w (10 ^ k) small)

pub columns_full : (k w : ℕ) → 10 ^ k ≤ w → columns (suc k) w ≡ digits (suc k) w
columns_full k w full = by_test (leb 1 k) (λ e. rw (e, le-ltb w (10 ^ k) full)) (λ e. rw e)

-- the byte of the column before the last k, where the number is x up to there; and of the last k columns
abbrev pub column : ℕ → ℕ → ℕ
column k x = pick (leb 1 k && ltb x 1) 32 (48 + x % 10)

abbrev pub each_column : ℕ → ℕ → List ℕ
each_column zero w = []
each_column (suc k) w = column k (w / 10 ^ k) ∷ each_column k w

each_full : (k w : ℕ) → 10 ^ k ≤ w → each_column (suc k) w ≡ digits (suc k) (w % 10 ^ suc k)
each_full zero w h = ap (λ x. (48 + x) ∷ []) (lone_digit 0 w)
each_full (suc k) w h =
    let some : column (suc k) (w / 10 ^ suc k) ≡ 48 + w / 10 ^ suc k % 10 =
    rw (le-leb 1 (suc k) (omega arith), le-ltb (w / 10 ^ suc k) 1 ((digit-some (suc k) w).1 h)) refl in
    ap₂ (λ x l. x ∷ l) (some ∙ ap (λ x. 48 + x) (lone_digit (suc k) w))
    (each_full k w (omega (arith, pow-succ' 10 k, tens_some k)) ∙ ap (digits (suc k)) (sym (other-digits (suc k) w)))

pub columns_each : (k w : ℕ) → w < 10 ^ k → columns k w ≡ each_column k w
columns_each zero w h = refl
columns_each (suc zero) w h = ap (λ x. (48 + x) ∷ []) (omega arith)
columns_each (suc (suc k)) w h =
    by_test (ltb w (10 ^ suc k))
    (λ t.
    let small = ltb-true w (10 ^ suc k) t in
    let some = le-leb 1 (suc k) (omega arith) in
    columns_blank (suc k) w (omega arith) small
    ∙ rw (some, div-eq_of_lt small) (ap (λ l. 32 ∷ l) (columns_each (suc k) w small)))
    (λ t.
    let full = ltb-false w (10 ^ suc k) t in
    columns_full (suc k) w full
    ∙ sym (each_full (suc k) w full ∙ ap (digits (suc (suc k))) (mod-eq_of_lt h)))
