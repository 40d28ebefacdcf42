-- Reading a field column by column. Where a reading stands is a flag, whether a digit was seen, and the number so far
-- (`scan`). Offers the classes of bytes, which of them break rule 2.2 (`rule_blank`, ..), what each does to a reading
-- (`column_goes`, `column_faults`), and the bound of a number with so many digits.
use mathlib.Core.Path.{◌≡◌, refl, ap, subst, ◌∙◌}
use mathlib.Core.Bool.{Bool, true, false, not, ◌&&◌, ◌||◌, or-true}
use mathlib.Core.List.{List, [], ◌∷◌}
use Prim.Native.Nat.{ℕ, zero, suc, ◌+◌, ◌-◌, ◌*◌, ◌^◌, ◌≤◌, ◌<◌}
use native.Mathlib.Nat.{pow-suc, pow-le-pow_right}
use native.Mathlib.Omega.{arith}
use native.Mathlib.Decide.{ℕ_discrete, dec_le}
use lib.Dec.{ltb, lit<}
use lib.ListN.{length, take, drop, length-take, length-drop}
use borrow.Author.Tests.{le-leb, lt-leb, ne_eqb, lt-ltb, le-ltb}
use Rattle.theory.specs.Sums.{pick}
use Rattle.theory.proofs.Tests.{by_test, fails}
use Rattle.std.specs.Prelude.{Result, Ok, Err}
use Rattle.fields.specs.Fields.{class_of, digits_from, field_from, field_read, is_digit, breaks_rule}
use Rattle.fields.specs.Fields.Class.{Digit, Foreign}

-- classes of bytes
pub class_digit : (b : ℕ) → 49 ≤ b → b ≤ 57 → class_of b ≡ Digit
class_digit b h g = rw (ne_eqb b 32 (λ e. omega arith), ne_eqb b 48 (λ e. omega arith), le-leb 49 b h, le-leb b 57 g)

pub class_low : (b : ℕ) → b < 48 → (b ≡ 32 → ⊥) → class_of b ≡ Foreign
class_low b h n = rw (ne_eqb b 32 n, ne_eqb b 48 (λ e. omega arith), lt-leb 49 b (omega arith))

pub class_high : (b : ℕ) → 58 ≤ b → class_of b ≡ Foreign
class_high b h =
    rw (
      ne_eqb b 32 (λ e. omega arith),
      ne_eqb b 48 (λ e. omega arith),
      le-leb 49 b (omega arith),
      lt-leb b 57 (omega arith),
    )

-- a byte is a blank, a decimal digit, or foreign
pub by_class : (P : ℕ → Type 0) (b : ℕ) → P 32 → ((d : ℕ) → d < 10 → P (48 + d)) → (class_of b ≡ Foreign → P b) → P b
by_class P b blank digit foreign =
    elim (ℕ_discrete b 32) [
      | yes e ↦ rw e blank
      | no n ↦
          elim (dec_le 48 b) [
            | no m ↦ foreign (class_low b (omega arith) n)
            | yes h ↦
                elim (dec_le b 57) [
                  | no m ↦ foreign (class_high b (omega arith))
                  | yes g ↦ let e : 48 + (b - 48) ≡ b = omega arith in subst P e (digit (b - 48) (omega arith))
                ]
          ]
    ]

-- decimal digits
pub digit_is : (d : ℕ) → d < 10 → is_digit (48 + d) ≡ true
digit_is zero h = refl
digit_is (suc d) h = rw (class_digit (48 + suc d) (omega arith) (omega arith))

pub digit_range : (b : ℕ) → is_digit b ≡ true → (48 ≤ b) × (b < 58)
digit_range b =
    by_class (λ b. is_digit b ≡ true → (48 ≤ b) × (b < 58)) b
    (λ e. fails e refl)
    (λ d h e. (omega arith, omega arith))
    (λ c e. fails e (rw c))

-- whether a byte breaks the rule, by its class
module _ (f a : Bool) (b : ℕ) where
  pub rule_blank : b ≡ 32 → breaks_rule f a b ≡ f
  rule_blank e = rw e refl

  pub rule_zero : (g : Bool) → b ≡ 48 → not f ≡ g → breaks_rule f a b ≡ (g && a)
  rule_zero g e h = rw (e, h) refl

  pub rule_digit : 49 ≤ b → b < 58 → breaks_rule f a b ≡ false
  rule_digit l h = rw (class_digit b l (omega arith)) refl

  pub rule_foreign : class_of b ≡ Foreign → breaks_rule f a b ≡ true
  rule_foreign c = rw c refl

-- a byte that breaks nothing, and is no blank
pub unbroken_digit : (f a : Bool) (b : ℕ) → breaks_rule f a b ≡ false → (b ≡ 32 → ⊥) → is_digit b ≡ true
unbroken_digit f a b =
    by_class (λ b. breaks_rule f a b ≡ false → (b ≡ 32 → ⊥) → is_digit b ≡ true) b
    (λ e n. absurd (n refl))
    (λ d h e n. digit_is d h)
    (λ c e n. fails (rw c) e)

-- where a reading stands: whether there was a digit, and the number so far
abbrev pub scan : Bool → ℕ → ℕ → List ℕ → Result ℕ ℕ
scan true at v l = digits_from at v l
scan false at v l = field_from at l

-- the number with one column more
abbrev pub next : ℕ → ℕ → ℕ
next v b = pick (is_digit b) (10 * v + (b - 48)) v

-- one digit, after others and as the first
pub digit_late : (at v d : ℕ) (bs : List ℕ) → d < 10 → digits_from at v ((48 + d) ∷ bs) ≡ digits_from at (10 * v + d) bs
digit_late at v zero bs h = refl
digit_late at v (suc d) bs h =
    rw (digits_from, class_digit (48 + suc d) (omega arith) (omega arith)) (ap (λ n. digits_from at n bs) (omega arith))

pub digit-first : (at d : ℕ) (bs : List ℕ) → 1 ≤ d → d < 10 → field_from at ((48 + d) ∷ bs) ≡ digits_from at d bs
digit-first at d bs l h =
    rw (field_from, class_digit (48 + d) (omega arith) (omega arith)) (ap (λ n. digits_from at n bs) (omega arith))

-- a digit more: the reading goes on, or the field is faulty
digit_goes : (f : Bool) (at v d : ℕ) (bs : List ℕ) → v ≡ pick f v 0 → d < 10 →
    breaks_rule f (ltb 0 (length bs)) (48 + d) ≡ false → scan f at v ((48 + d) ∷ bs) ≡ digits_from at (10 * v + d) bs
digit_goes true at v d bs w h e = digit_late at v d bs h
digit_goes false at v zero [] w h e = ap Ok (omega arith)
digit_goes false at v zero (c ∷ cs) w h e = fails (lt-ltb 0 (suc (length cs)) (omega arith)) e
digit_goes false at v (suc d) bs w h e =
    digit-first at (suc d) bs (omega arith) h ∙ ap (λ n. digits_from at n bs) (omega arith)

digit_faults : (f : Bool) (at v d : ℕ) (bs : List ℕ) → d < 10 →
    breaks_rule f (ltb 0 (length bs)) (48 + d) ≡ true → scan f at v ((48 + d) ∷ bs) ≡ Err at
digit_faults true at v zero bs h e = fails e refl
digit_faults false at v zero [] h e = fails e refl
digit_faults false at v zero (c ∷ cs) h e = refl
digit_faults f at v (suc d) bs h e = fails e (rw (class_digit (48 + suc d) (omega arith) (omega arith)))

-- a column more, whatever its byte
pub column_goes : (f : Bool) (at v b : ℕ) (bs : List ℕ) → v ≡ pick f v 0 → breaks_rule f (ltb 0 (length bs)) b ≡ false →
    scan f at v (b ∷ bs) ≡ scan (f || is_digit b) at (next v b) bs
column_goes f at v b bs w =
    by_class
    (λ b. breaks_rule f (ltb 0 (length bs)) b ≡ false →
    scan f at v (b ∷ bs) ≡ scan (f || is_digit b) at (next v b) bs) b
    (λ e. rw e)
    (λ d h e.
    rw (digit_is d h, or-true) (digit_goes f at v d bs w h e ∙ ap (λ n. digits_from at n bs) (omega arith)))
    (λ c e. fails (rw c) e)

pub column_faults : (f : Bool) (at v b : ℕ) (bs : List ℕ) → breaks_rule f (ltb 0 (length bs)) b ≡ true →
    scan f at v (b ∷ bs) ≡ Err at
column_faults f at v b bs =
    by_class (λ b. breaks_rule f (ltb 0 (length bs)) b ≡ true → scan f at v (b ∷ bs) ≡ Err at) b
    (λ e. rw e)
    (λ d h e. digit_faults f at v d bs h e)
    (λ c e. by_test f (λ t. rw (t, digits_from, c)) (λ t. rw (t, field_from, c)))

-- a number of n digits: with one more, and as one of m or fewer
pub one_more : (n v d : ℕ) → v < 10 ^ n → d < 10 → 10 * v + d < 10 ^ suc n
one_more n v d h g = rw pow-suc (omega arith)

pub few_digits : (n m v : ℕ) → n ≤ m → v < 10 ^ n → v < 10 ^ m
few_digits n m v h g = omega (arith, pow-le-pow_right {n = 10} (lit< tt) h)

-- the six columns of a field
pub six_long : (s : List ℕ) (at : ℕ) → at + 6 ≤ length s → length (take 6 (drop at s)) ≡ 6
six_long s at h = simp (length-take, length-drop) (omega arith)

-- what reading a field answers where six bytes are left
pub six_left : (s : List ℕ) (at : ℕ) (f : Result ℕ ℕ) → at + 6 ≤ length s → f ≡ field_from at (take 6 (drop at s)) →
    record { next = at + 6; field = f } ≡ field_read s at
six_left s at f h e = rw (le-ltb (length s) (at + 6) h, e) refl
