-- The sum of a field's digits: with one column more it is the running value (`sum-last`), and it is the field's number
-- where no column breaks the rule (`field_sum`). `fields_all` has what is claimed of fields.
use mathlib.Core.Path.{◌≡◌, refl, sym, ap, ◌∙◌}
use mathlib.Core.Logic.{◌↔◌}
use mathlib.Core.Bool.{true, false, ◌||◌}
use mathlib.Core.List.{List, [], ◌∷◌, ◌++◌}
use Prim.Native.Nat.{ℕ, zero, suc, ◌+◌, ◌-◌, ◌*◌, ◌^◌, ◌≤◌, ◌<◌}
use native.Mathlib.Nat.{pow-suc}
use native.Mathlib.Omega.{arith}
use lib.Dec.{ltb}
use lib.ListN.{length, take, drop, get_or, length-drop}
use lib.Seq.{take-suc, drop-cons, take-length, drop-length}
use borrow.Author.Tests.{ltb-true, ltb-false, lt-ltb, le-ltb}
use Rattle.theory.specs.Sums.{pick, when}
use Rattle.theory.specs.Tests.{some}
use Rattle.theory.specs.Lists.{keep, up_to}
use Rattle.theory.proofs.Tests.{by_test, same_test, fails, some-last}
use Rattle.theory.proofs.Lists.{kept_last, tabulate-last}
use Rattle.std.specs.Prelude.{Result, Ok, Err}
use Rattle.fields.specs.Fields.{field_from, field_at, number_of, is_digit, digits_sum, breaks, broken_by}
use Rattle.fields.specs.Claims.{Fields, values_after, broken_after}
use Rattle.fields.proofs.Scan.{digit_is, six_long, scan, next, column_goes, column_faults}
use Rattle.fields.proofs.Canonical.{no_number}

-- by computing
running_0 : values_after (32 ∷ 32 ∷ 32 ∷ 32 ∷ 32 ∷ 48 ∷ []) ≡ 0 ∷ 0 ∷ 0 ∷ 0 ∷ 0 ∷ 0 ∷ []
running_0 = refl

running_105 : values_after (32 ∷ 32 ∷ 32 ∷ 49 ∷ 48 ∷ 53 ∷ []) ≡ 0 ∷ 0 ∷ 0 ∷ 1 ∷ 10 ∷ 105 ∷ []
running_105 = refl

broken_03 : broken_after (32 ∷ 32 ∷ 32 ∷ 32 ∷ 48 ∷ 51 ∷ []) ≡ false ∷ false ∷ false ∷ false ∷ true ∷ true ∷ []
broken_03 = refl

sum_1 : digits_sum (49 ∷ 32 ∷ []) ≡ 1
sum_1 = refl

-- the term of a column in the sum, with one column more after it
term_more : (x b : ℕ) (l : List ℕ) →
    let t = when (is_digit x) ((x - 48) * 10 ^ length (keep is_digit l)) in
    when (is_digit x) ((x - 48) * 10 ^ length (keep is_digit (l ++ (b ∷ [])))) ≡ pick (is_digit b) (10 * t) t
term_more x b l =
    let n = length (keep is_digit l) in
    let ten : (x - 48) * 10 ^ suc n ≡ 10 * ((x - 48) * 10 ^ n) = rw pow-suc (omega arith) in
    rw (kept_last is_digit l b)
    (by_test (is_digit b) (λ e. rw e (by_test (is_digit x) (λ t. rw t ten) (λ t. rw t))) (λ e. rw e))

-- the sum of the digits with one column more
sum-last : (l : List ℕ) (b : ℕ) → digits_sum (l ++ (b ∷ [])) ≡ next (digits_sum l) b
sum-last [] b = by_test (is_digit b) (λ e. rw e (omega arith)) (λ e. rw e)
sum-last (x ∷ l) b =
    by_test (is_digit b)
    (λ e. rw e (omega (arith, rw e at (term_more x b l), rw e at (sum-last l b))))
    (λ e. rw e (omega (arith, rw e at (term_more x b l), rw e at (sum-last l b))))

running_step : (l : List ℕ) (d : ℕ) → d < 10 → digits_sum (l ++ ((48 + d) ∷ [])) ≡ 10 * digits_sum l + d
running_step l d h =
    let step : digits_sum (l ++ ((48 + d) ∷ [])) ≡ 10 * digits_sum l + (48 + d - 48) =
    rw (digit_is d h) at (sum-last l (48 + d)) in
    omega (arith, step)

running_blank : (l : List ℕ) → digits_sum (l ++ (32 ∷ [])) ≡ digits_sum l
running_blank l = sum-last l 32

running_none : (l : List ℕ) → some is_digit l ≡ false → digits_sum l ≡ 0
running_none [] h = refl
running_none (b ∷ l) h =
    by_test (is_digit b) (λ e. fails (rw e) h) (λ e. rw e (omega (arith, running_none l (rw e at h))))

-- one column more
module _ (l : List ℕ) (k : ℕ) (h : k < length l) where
  pub begun_more : some is_digit (take (suc k) l) ≡ (some is_digit (take k l) || is_digit (get_or l k 0))
  begun_more = rw (take-suc l k 0 h) (some-last is_digit (take k l) (get_or l k 0))

  pub broken_more : broken_by (suc k) l ≡ (broken_by k l || breaks l k)
  broken_more =
      let here : 0 + k ≡ k = omega arith in
      ap (some (breaks l)) (tabulate-last k 0 (λ i. i))
      ∙ some-last (breaks l) (up_to k 0) (0 + k)
      ∙ ap (λ j. broken_by k l || breaks l j) here

  pub sum_more : digits_sum (take (suc k) l) ≡ next (digits_sum (take k l)) (get_or l k 0)
  sum_more = ap digits_sum (take-suc l k 0 h) ∙ sum-last (take k l) (get_or l k 0)

  -- a column comes after this one
  after_means : ltb (suc k) (length l) ≡ ltb 0 (length (drop (suc k) l))
  after_means =
      same_test (ltb (suc k) (length l)) (ltb 0 (length (drop (suc k) l)))
      (λ e. lt-ltb 0 (length (drop (suc k) l)) (rw length-drop (omega (arith, ltb-true (suc k) (length l) e))))
      (λ e. lt-ltb (suc k) (length l) (omega (arith, length-drop (suc k) l, ltb-true 0 (length (drop (suc k) l)) e)))

-- the value is 0 while there is no digit
sum_begun : (l : List ℕ) → digits_sum l ≡ pick (some is_digit l) (digits_sum l) 0
sum_begun l = by_test (some is_digit l) (λ e. rw e) (λ e. rw e (running_none l e))

-- the columns that are left give the field, or one before them has broken the rule
module _ (at : ℕ) (l : List ℕ) where
  abbrev left : ℕ → Result ℕ ℕ
  left k = scan (some is_digit (take k l)) at (digits_sum (take k l)) (drop k l)

  left_more : (k : ℕ) → k < length l → breaks l k ≡ false → left (suc k) ≡ left k
  left_more k h e =
      rw (begun_more l k h, sum_more l k h, drop-cons l k 0 h)
      (sym (column_goes (some is_digit (take k l)) at (digits_sum (take k l)) (get_or l k 0) (drop (suc k) l)
      (sum_begun (take k l)) (rw (after_means l k h) at e)))

  left_faults : (k : ℕ) → k < length l → breaks l k ≡ true → left k ≡ Err at
  left_faults k h e =
      rw (drop-cons l k 0 h)
      (column_faults (some is_digit (take k l)) at (digits_sum (take k l)) (get_or l k 0) (drop (suc k) l)
      (rw (after_means l k h) at e))

  left_field : (k : ℕ) → k ≤ length l → field_from at l ≡ pick (broken_by k l) (Err at) (left k)
  left_field zero h = refl
  left_field (suc k) h =
      let before = left_field k (omega arith) in
      rw (broken_more l k h)
      (by_test (broken_by k l)
      (λ t. rw t (rw t at before))
      (λ t.
      by_test (breaks l k)
      (λ e. rw (t, e) (rw t at before ∙ left_faults k h e))
      (λ e. rw (t, e) (rw t at before ∙ sym (left_more k h e)))))

pub field_sum : (at : ℕ) (l : List ℕ) →
    field_from at l
    ≡ pick (broken_by (length l) l) (Err at) (pick (some is_digit l) (Ok (digits_sum l)) (Err at))
field_sum at l =
    let whole = rw (take-length, drop-length) at (left_field at l (length l) (omega arith)) in
    whole ∙ ap (pick (broken_by (length l) l) (Err at)) (by_test (some is_digit l) (λ e. rw e) (λ e. rw e))

-- the columns have the number v
number_means : (at v : ℕ) (l : List ℕ) →
    (field_from at l ≡ Ok v) ↔ ((broken_by (length l) l ≡ false) × (some is_digit l ≡ true) × (v ≡ digits_sum l))
number_means at v l = (
  λ e. by_test (broken_by (length l) l) (λ t. no_number (sym (rw t at (field_sum at l)) ∙ e)) (λ t.
      by_test (some is_digit l)
      (λ d. (t, d, ap number_of (sym e ∙ rw (t, d) at (field_sum at l))))
      (λ d. no_number (sym (rw (t, d) at (field_sum at l)) ∙ e))),
  λ h. rw h.2 (rw (h.0, h.1) at (field_sum at l)),
)

field_by_sum : (b : List ℕ) (at v : ℕ) →
    (field_at at b ≡ Ok v) ↔ ((at + 6 ≤ length b)
    × (broken_by 6 (take 6 (drop at b)) ≡ false)
    × (some is_digit (take 6 (drop at b)) ≡ true)
    × (v ≡ digits_sum (take 6 (drop at b))))
field_by_sum b at v = (
  λ e. by_test (ltb (length b) (at + 6)) (λ t. no_number (rw t at e)) (λ t.
      let room = ltb-false (length b) (at + 6) t in
      let h = rw (six_long b at room) at ((number_means at v (take 6 (drop at b))).0 (rw t at e)) in
      (room, h.0, h.1, h.2)),
  λ h. rw (le-ltb (length b) (at + 6) h.0)
      (rw (six_long b at h.0) at (number_means at v (take 6 (drop at b))).1 (h.1, h.2, h.3)),
)

pub fields_all : Fields
fields_all = record {
  running_none = running_none;
  running_step = running_step;
  running_blank = running_blank;
  field_by_sum = field_by_sum;
  running_0 = running_0;
  running_105 = running_105;
  broken_03 = broken_03;
  sum_1 = sum_1;
}
