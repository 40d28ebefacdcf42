-- What questions 6, 7 and 8 find: the first wrong place, none, and what is wrong there. Offers `first_place` (the first
-- wrong place has the least offset), and for each question what its "no" and its "yes" mean.
use mathlib.Core.Path.{◌≡◌, refl, sym, ap, ◌∙◌}
use mathlib.Core.Logic.{◌⊎◌, inl, inr}
use mathlib.Core.Bool.{true, false, not}
use mathlib.Core.List.{List, [], ◌∷◌}
use Prim.Native.Nat.{ℕ, zero, suc, ◌+◌, ◌-◌, ◌*◌, ◌/◌, ◌%◌, ◌^◌, ◌≤◌, ◌<◌}
use native.Mathlib.Nat.{suc-mul, mul-le-mul_right, div-add-mod'}
use native.Mathlib.Omega.{arith}
use native.Mathlib.Decide.{ℕ_discrete, dec_le}
use lib.Dec.{ltb}
use lib.ListN.{length, take, drop, get_or}
use borrow.Author.Tests.{ltb-true, ltb-false, lt-ltb, leb-false, not-true}
use Rattle.theory.proofs.Tests.{by_test, fails, Means, means_via, itself, and_means, imp_means, not_means, eqb_means}
use Rattle.theory.proofs.Tests.{leb_means, imp_fails, every_means, every_fails, least_none, least_found}
use Rattle.std.specs.Prelude.{Result, Ok, Err}
use Rattle.fields.specs.Fields.{Class, class_of, on_class, digits_from, zero_from, field_from, field_at, good}
use Rattle.fields.specs.Fields.Class.{Blank, Zero, Digit, Foreign}
use Rattle.sheet.specs.Sheets.{line_length, offset, Sheet, worth}
use Rattle.numbers.specs.Numbers.{bit}
use Rattle.sheet.specs.Questions.{is_field, malformed, too_large, falls, wrong, first_wrong}
use Rattle.sheet.specs.Claims.{GoodField, Malformed, TooLarge, Falls, LeastPlace}
use Rattle.numbers.proofs.Numbers.{pow_some, line_below, place_below, count_below, count-line, count_place}

-- a later place begins later
pub offset_mono : (n i c j d : ℕ) → c < 2 ^ n → i * 2 ^ n + c ≤ j * 2 ^ n + d → d < 2 ^ n → offset n i c ≤ offset n j d
offset_mono n i c j d h l g =
    elim (ℕ_discrete i j) [
      | yes e ↦ omega (arith, ap (λ x. x * 2 ^ n) e, ap (λ x. x * line_length n) e)
      | no e ↦
          elim (dec_le (suc i) j) [
            | yes k ↦ omega (arith, suc-mul i (line_length n), mul-le-mul_right {m = suc i} {n = j} (line_length n) k)
            | no k ↦
                let less : suc j ≤ i = omega arith in
                absurd (omega (arith, suc-mul j (2 ^ n), mul-le-mul_right {m = suc j} {n = i} (2 ^ n) less))
          ]
    ]

module _ (q : ℕ) (b : List ℕ) (w : Sheet) where
  abbrev size : ℕ
  size = 2 ^ w.lots

  abbrev Wrong : ℕ → ℕ → Type 0
  Wrong i c = wrong q b w i c ≡ true

  counted : (i c : ℕ) → c < size → wrong q b w ((i * size + c) / size) ((i * size + c) % size) ≡ wrong q b w i c
  counted i c h = rw (count-line size (pow_some w.lots) i c h, count_place size (pow_some w.lots) i c h)

  -- the first wrong place has the least offset of all
  pub first_place : (k : ℕ) → first_wrong q b w ≡ suc k → LeastPlace w Wrong (offset w.lots (k / size) (k % size))
  unfolding first_wrong
  first_place k e =
      let f = least_found (w.buyers * size) 0 _ k e in
      let some = pow_some w.lots in
      record {
        found = record {
          line = k / size;
          place = k % size;
          below = (line_below k w.buyers size some (omega (arith, f.among)), place_below k size some);
          offset_is = refl;
          is_wrong = f.passes;
        };
        least = λ p a.
            let i = a.line in
            let c = a.place in
            let at : k ≤ i * size + c =
            elim (dec_le k (i * size + c)) [
              | yes l ↦ l
              | no l ↦
                  fails (counted i c a.below.1 ∙ a.is_wrong) (f.before (i * size + c) (omega arith) (omega arith))
            ] in
            rw a.offset_is (offset_mono w.lots (k / size) (k % size) i c (place_below k size some)
            (omega (arith, div-add-mod' k size)) a.below.1);
      }

  pub none_wrong_lem : first_wrong q b w ≡ 0 → (i c : ℕ) → i < w.buyers → c < size → wrong q b w i c ≡ false
  unfolding first_wrong
  none_wrong_lem e i c h g =
      sym (counted i c g)
      ∙ least_none (w.buyers * size) 0 _ e (i * size + c)
      (omega (arith, count_below size (pow_some w.lots) w.buyers i c h g))

  pub all_right : ((i c : ℕ) → i < w.buyers → c < size → wrong q b w i c ≡ false) → first_wrong q b w ≡ 0
  all_right h = go (first_wrong q b w) refl
    where
      go : (x : ℕ) → first_wrong q b w ≡ x → first_wrong q b w ≡ 0
      go zero e = e
      go (suc k) e =
          let f = (first_place k e).found in fails f.is_wrong (h f.line f.place f.below.0 f.below.1)

-- a field is a number, or faulty, and then known by the column asked
abbrev Told : ℕ → Result ℕ ℕ → Type 0
Told at f = ((v : ℕ) × (f ≡ Ok v)) ⊎ (f ≡ Err at)

class_told : (at : ℕ) (c : Class) (x y z u : Result ℕ ℕ) → Told at x → Told at y → Told at z → Told at u →
    Told at (on_class c x y z u)
class_told at Blank x y z u a b c d = a
class_told at Zero x y z u a b c d = b
class_told at Digit x y z u a b c d = c
class_told at Foreign x y z u a b c d = d

digits-told : (at v : ℕ) (l : List ℕ) → Told at (digits_from at v l)
digits-told at v [] = inl (v, refl)
digits-told at v (b ∷ l) =
    let r = digits-told at (10 * v + (b - 48)) l in
    class_told at (class_of b) (Err at) (digits_from at (10 * v + (b - 48)) l) (digits_from at (10 * v + (b - 48)) l)
    (Err at) (inr refl) r r (inr refl)

zero_told : (at : ℕ) (l : List ℕ) → Told at (zero_from at l)
zero_told at [] = inl (0, refl)
zero_told at (b ∷ l) = inr refl

columns-told : (at : ℕ) (l : List ℕ) → Told at (field_from at l)
columns-told at [] = inr refl
columns-told at (b ∷ l) =
    class_told at (class_of b) (field_from at l) (zero_from at l) (digits_from at (b - 48) l) (Err at)
    (columns-told at l) (zero_told at l) (digits-told at (b - 48) l) (inr refl)

pub field_told : (b : List ℕ) (at : ℕ) → ((v : ℕ) × (field_at at b ≡ Ok v)) ⊎ (field_at at b ≡ Err at)
field_told b at =
    by_test (ltb (length b) (at + 6)) (λ e. rw e (inr refl)) (λ e. rw e (columns-told at (take 6 (drop at b))))

pub good_means : (b : List ℕ) (at : ℕ) → Means (good (field_at at b)) (GoodField b at)
good_means b at = (
  λ e. elim (field_told b at) [ inl h ↦ h | inr h ↦ fails e (ap good h) ],
  λ h. ap good h.1,
)

pub bad_means : (b : List ℕ) (at : ℕ) → Means (not (good (field_at at b))) (field_at at b ≡ Err at)
bad_means b at = (
  λ e. elim (field_told b at) [ inl h ↦ fails (ap good h.1) (not-true (good (field_at at b)) e) | inr h ↦ h ],
  λ h. ap (λ f. not (good f)) h,
)

-- what the questions find at one place
module _ (b : List ℕ) (w : Sheet) (i c : ℕ) where
  abbrev at : ℕ
  at = offset w.lots i c

  field_means : Means (is_field w i c) (suc c < 2 ^ w.lots)
  field_means = (ltb-true (suc c) (2 ^ w.lots), lt-ltb (suc c) (2 ^ w.lots))

  pub malformed_means : c < 2 ^ w.lots → Means (malformed w i c b) (Malformed w i c b)
  malformed_means below = by_test (is_field w i c)
      (λ e. let here = field_means.0 e in
      rw e (means_via (bad_means b at) (λ h. inl (here, h))
      (λ h. elim h [ inl x ↦ x.1 | inr x ↦ absurd (let l = x.0 in omega arith) ])))
      (λ e. let end = ltb-false (suc c) (2 ^ w.lots) e in
      rw e (means_via (not_means (eqb_means (get_or b at 0) 10)) (λ h. inr (omega arith, h))
      (λ h. elim h [ inl x ↦ absurd (let l = x.0 in omega arith) | inr x ↦ x.1 ])))

  pub large_means : Means (too_large w i c) (TooLarge w i c)
  large_means = and_means field_means (ltb-true 9999 (worth w i (suc c)), lt-ltb 9999 (worth w i (suc c)))

  pub falls_means : Means (falls w i c) (Falls w i c)
  falls_means =
      and_means field_means
      (means_via (itself _)
      (λ e.
      let (j, r, f) = every_fails w.lots 0 _ (not-true _ e) in
      let (has, more) = imp_fails (bit j (suc c)) _ f in
      (j, omega arith, has, leb-false (worth w i (suc c - 2 ^ j)) (worth w i (suc c)) more))
      (λ h.
      let (j, l, has, more) = h in
      (not_means (every_means w.lots 0
      (λ j r. imp_means (itself (bit j (suc c))) (leb_means (worth w i (suc c - 2 ^ j)) (worth w i (suc c)))))).1
      (λ all. let le = all j (omega arith) has in absurd (omega arith))))
