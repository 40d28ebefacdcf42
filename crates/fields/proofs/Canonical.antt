-- A field says v exactly where its six columns are those in which v is written (`field_canonical`).
-- Before the last k digits of w the number so far is w / 10 ^ k, and they are the digits of w % 10 ^ k.
use mathlib.Core.Path.{◌≡◌, refl, sym, ap, ◌∙◌}
use mathlib.Core.Logic.{◌↔◌}
use mathlib.Core.List.{List, [], ◌∷◌}
use Prim.Native.Nat.{ℕ, zero, suc, ◌+◌, ◌*◌, ◌/◌, ◌%◌, ◌^◌, ◌≤◌, ◌<◌}
use native.Mathlib.Omega.{arith}
use lib.Dec.{ltb}
use lib.ListN.{length, take, drop}
use borrow.Author.Tests.{ltb-true, ltb-false, le-ltb}
use Rattle.theory.proofs.Tests.{by_test}
use Rattle.std.specs.Prelude.{Ok, Err}
use Rattle.fields.specs.Fields.{digits_from, field_from, field_at, digits, columns}
use Rattle.fields.proofs.Scan.{by_class, digit_late, digit-first, six_long}
use Rattle.fields.proofs.Digits.{digit_small, digit-some, next_small, next_digit, other-digits}
use Rattle.fields.proofs.Digits.{columns_blank, columns_full}

pub no_number : {P : Type 0} {at v : ℕ} → Err at ≡ Ok v → P
no_number e = absurd (let z : ◌≡◌ {A = ℕ} 0 1 = cc in omega arith)

-- a number's last k digits, after the others
digits-read : (at k w : ℕ) → digits_from at (w / 10 ^ k) (digits k (w % 10 ^ k)) ≡ Ok w
digits-read at zero w = ap Ok (omega arith)
digits-read at (suc k) w =
    digit_late at (w / 10 ^ suc k) (w % 10 ^ suc k / 10 ^ k) (digits k (w % 10 ^ suc k % 10 ^ k)) (next_small k w)
    ∙ rw (next_digit k w, other-digits k w) (digits-read at k w)

digits_written : (at v w : ℕ) (l : List ℕ) → digits_from at v l ≡ Ok w →
    (v ≡ w / 10 ^ length l) × (l ≡ digits (length l) (w % 10 ^ length l))
digits_written at v w [] = λ e. let f : v ≡ w = cc in (omega arith, refl)
digits_written at v w (b ∷ bs) =
    let k = length bs in
    by_class (λ b. digits_from at v (b ∷ bs) ≡ Ok w →
    (v ≡ w / 10 ^ suc k) × (b ∷ bs ≡ digits (suc k) (w % 10 ^ suc k))) b
    no_number
    (λ d h e.
    let (before, same) = digits_written at (10 * v + d) w bs (sym (digit_late at v d bs h) ∙ e) in
    let last : w % 10 ^ suc k / 10 ^ k ≡ d = omega (arith, next_digit k w, next_small k w) in
    (omega (arith, next_digit k w), rw (last, other-digits k w) (ap (λ l. (48 + d) ∷ l) same)))
    (λ c e. no_number (rw (digits_from, c) at e))

full_read : (at k w : ℕ) → 10 ^ k ≤ w → w < 10 ^ suc k → field_from at (columns (suc k) w) ≡ Ok w
full_read at k w full small =
    ap (field_from at) (columns_full k w full)
    ∙ digit-first at (w / 10 ^ k) (digits k (w % 10 ^ k)) ((digit-some k w).1 full) ((digit_small k w).1 small)
    ∙ digits-read at k w

columns-read : (at k w : ℕ) → w < 10 ^ suc k → field_from at (columns (suc k) w) ≡ Ok w
columns-read at zero zero h = refl
columns-read at zero (suc w) h = full_read at 0 (suc w) (omega arith) h
columns-read at (suc k) w h =
    by_test (ltb w (10 ^ suc k))
    (λ e. let small = ltb-true w (10 ^ suc k) e in ap (field_from at) (columns_blank (suc k) w (omega arith) small)
    ∙ columns-read at k w small)
    (λ e. full_read at (suc k) w (ltb-false w (10 ^ suc k) e) h)

-- these columns are not none, and those in which w is written
abbrev Columns : ℕ → List ℕ → Type 0
Columns w l = (1 ≤ length l) × (w < 10 ^ length l) × (l ≡ columns (length l) w)

first_written : (at w d : ℕ) (bs : List ℕ) → d < 10 → field_from at ((48 + d) ∷ bs) ≡ Ok w →
    Columns w ((48 + d) ∷ bs)
first_written at w zero [] h e = let z : 0 ≡ w = cc in rw (← z) (omega arith, omega arith, refl)
first_written at w zero (c ∷ cs) h e = no_number e
first_written at w (suc d) bs h e =
    let k = length bs in
    let (first, same) = digits_written at (suc d) w bs (sym (digit-first at (suc d) bs (omega arith) h) ∙ e) in (
      omega arith,
      (digit_small k w).0 (omega arith),
      rw (columns_full k w ((digit-some k w).0 (omega arith)), ← first) (ap (λ l. (48 + suc d) ∷ l) same),
    )

columns_written : (at w : ℕ) (l : List ℕ) → field_from at l ≡ Ok w → Columns w l
columns_written at w [] = no_number
columns_written at w (b ∷ bs) =
    by_class (λ b. field_from at (b ∷ bs) ≡ Ok w → Columns w (b ∷ bs)) b
    (λ e.
    let (some, small, same) = columns_written at w bs e in
    let less : w < 10 ^ suc (length bs) = omega arith in
    (omega arith, less, ap (λ l. 32 ∷ l) same ∙ sym (columns_blank (length bs) w some small)))
    (λ d. first_written at w d bs)
    (λ c e. no_number (rw (field_from, c) at e))

pub field_canonical : (s : List ℕ) (at v : ℕ) →
    (field_at at s ≡ Ok v) ↔ ((at + 6 ≤ length s) × (v ≤ 999999) × (take 6 (drop at s) ≡ columns 6 v))
field_canonical s at v = (
  λ e. by_test (ltb (length s) (at + 6)) (λ t. no_number (rw t at e)) (λ t.
      let room = ltb-false (length s) (at + 6) t in
      let six = six_long s at room in
      let (some, small, same) = columns_written at v (take 6 (drop at s)) (rw t at e) in
      let small : v < 10 ^ 6 = rw six at small in
      (room, omega arith, rw six at same)),
  λ h. rw (le-ltb (length s) (at + 6) h.0, h.2) (columns-read at 5 v (omega arith)),
)
