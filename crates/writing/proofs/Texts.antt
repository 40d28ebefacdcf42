-- The text of an answer, by its number (`text_is`); what `sheet_text` answers (`text_told`); what is printed of numbers
-- is what is written of them (`text_says`, `typed_fields`), and no other bytes are written (`text_fields`); it is never
-- long (`text_longest`).
use mathlib.Core.Path.{◌≡◌, refl, sym, ap, ap₂, subst₂, ◌∙◌}
use mathlib.Core.Logic.{◌≢◌}
use mathlib.Core.List.{List, [], ◌∷◌}
use Rattle.std.specs.Prelude.{Result, Ok, Err}
use Rattle.std.specs.Result.{result_unwrap_or}
use Prim.Native.Nat.{ℕ, zero, suc, min, ◌+◌, ◌-◌, ◌*◌, ◌/◌, ◌^◌, ◌≤◌, ◌<◌}
use native.Mathlib.Nat.{pow-le-pow_right}
use native.Mathlib.Omega.{arith}
use native.Mathlib.Decide.{ℕ_discrete, dec_le}
use lib.Dec.{lit<}
use lib.ListN.{length, take, drop, get_or, replicate, length-replicate}
use lib.Seq.{take_all, take_at, ext_get_or}
use borrow.Author.Tests.{eq-eqb, ne_eqb}
use Rattle.theory.specs.Sums.{pick}
use Rattle.theory.specs.Lists.{tabulate, over}
use Rattle.theory.proofs.Lists.{tabulate-at, tabulate-length, tabulate-take}
use Rattle.numbers.proofs.Numbers.{product_small}
use Rattle.fields.specs.Fields.{columns, fields_of, line_of, field_at}
use Rattle.fields.proofs.Canonical.{field_canonical}
use Rattle.fields.proofs.Lines.{fields_length, line-length}
use Rattle.fields.proofs.Listed.{listed-read, fields_listed}
use Rattle.printing.specs.declared.Text.{Text}
use Rattle.sheet.specs.declared.Fault.{Fault}
use Rattle.sheet.specs.Sheets.{line_length}
use Rattle.writing.specs.declared.Wrote.{Wrote}
use Rattle.writing.specs.Lists.{sheet_bytes}
use Rattle.writing.specs.Answers.{write_fault, WriteSays, or_too_large, typed, typed_list, first_typed}
use Rattle.writing.specs.Answers.{sheet_text, text_in, wrote_text, sheet_text_of}
use Rattle.writing.specs.Claims.{ListQuestion}
use Rattle.writing.proofs.Questions.{write_place, write_all_yes}
use Rattle.writing.proofs.Answers.{sheet_length, write_told}
use Rattle.writing.proofs.Limits.{count_small, bytes_small, room_alike, write_cut}

pub first-length : (b : List ℕ) → length (first_typed b) ≡ 91
unfolding first_typed
first-length b = tabulate-length 91 2 (typed b)

-- the numbers that the code takes are the first ninety-one of the list
pub first-list : (b : List ℕ) (k : ℕ) → k ≡ min 91 ((length b + 5) / 6 - 2) →
    take k (first_typed b) ≡ take 91 (typed_list b)
unfolding first_typed
first-list b k e =
    let many = (length b + 5) / 6 - 2 in
    tabulate-take k 91 2 (typed b) (omega arith)
    ∙ elim (dec_le many 91) [
      | yes h ↦
          let same : k ≡ many = omega arith in
          ap (λ j. tabulate j 2 (typed b)) same
          ∙ sym (take_all 91 (tabulate many 2 (typed b)) (omega (arith, tabulate-length many 2 (typed b))))
      | no h ↦
          let same : k ≡ 91 = omega arith in
          ap (λ j. tabulate j 2 (typed b)) same ∙ sym (tabulate-take 91 many 2 (typed b) (omega arith))
    ]

-- the text of an answer, by its number
module _ (w : Wrote) (bytes : List ℕ) where
  abbrev refusal_text : Text 559
  refusal_text = text_in (over (line_of (w.number ∷ w.place ∷ [])) bytes) 13

  pub sheet_shown : w.number ≡ 0 → text_in bytes w.length ≡ wrote_text w bytes
  sheet_shown z = ap (λ t. pick t (text_in bytes w.length) refusal_text) (sym (eq-eqb w.number 0 z))

  pub refusal_shown : w.number ≢ 0 → refusal_text ≡ wrote_text w bytes
  refusal_shown h = ap (λ t. pick t (text_in bytes w.length) refusal_text) (sym (ne_eqb w.number 0 h))

  pub text_is : (t : Text 559) → (w.number ≡ 0 → text_in bytes w.length ≡ t) → (w.number ≢ 0 → refusal_text ≡ t) →
      wrote_text w bytes ≡ t
  text_is t written refused =
      elim (ℕ_discrete w.number 0) [
        | yes z ↦ sym (sheet_shown z) ∙ written z
        | no h ↦ sym (refusal_shown h) ∙ refused h
      ]

module _ (b : List ℕ) where
  abbrev m : ℕ
  m = typed b 0

  abbrev n : ℕ
  n = typed b 1

  abbrev vs : List ℕ
  vs = typed_list b

  abbrev f : Fault
  f = write_fault m n vs 559

  abbrev line : ℕ → ℕ → List ℕ
  line number place = line_of (number ∷ place ∷ [])

  accepted_text : f.number ≡ 0 → sheet_text b ≡ sheet_bytes m n vs
  unfolding sheet_text
  accepted_text z = ap (λ t. pick t (sheet_bytes m n vs) (line f.number f.place)) (eq-eqb f.number 0 z)

  refused_text_lem : f.number ≢ 0 → sheet_text b ≡ line f.number 0
  unfolding sheet_text
  refused_text_lem h =
      ap (λ t. pick t (sheet_bytes m n vs) (line f.number f.place)) (ne_eqb f.number 0 h)
      ∙ ap (line f.number) (write_place m n vs 559)

  text_of : (t : List ℕ) → sheet_text b ≡ t → text_in (over t (replicate 559 0)) (length t) ≡ sheet_text_of b
  text_of t e = ap (λ x. text_in (over x (replicate 559 0)) (length x)) (sym e)

  abbrev zeros : List ℕ
  zeros = replicate 559 0

  -- x, y and l are what the code takes of the numbers
  module _ (x y : ℕ) (l o' : List ℕ) (w : Wrote) (ex : x ≡ m) (ey : y ≡ n) (el : l ≡ take 91 vs)
      (told : WriteSays x y l zeros o' w) where
    says : WriteSays m n l zeros o' w
    says = subst₂ (λ i j. WriteSays i j l zeros o' w) ex ey told

    pub place_none : w.place ≡ 0
    place_none = (write_told says).place

    number_is : w.number ≡ f.number
    number_is =
        (write_told says).number
        ∙ ap (λ k. (write_fault m n l k).number) (length-replicate {A = ℕ} 559 0)
        ∙ ap (λ us. (write_fault m n us 559).number) el ∙ ap (λ (g : Fault). g.number) (write_cut m n vs 559)

    pub text_written : w.number ≡ 0 → text_in o' w.length ≡ sheet_text_of b
    text_written z =
        let yes_to = (write_all_yes m n vs 559).0 (sym number_is ∙ z) in
        let few = count_small m n (yes_to 0).1 (yes_to 1).1 in
        let whole : l ≡ vs = el ∙ take_all 91 vs (omega (arith, yes_to 2)) in
        let (long, bytes) = (write_told says).written z in
        ap₂ text_in bytes long
        ∙ ap (λ us. text_in (over (sheet_bytes m n us) zeros) (length (sheet_bytes m n us))) whole
        ∙ text_of (sheet_bytes m n vs) (accepted_text (sym number_is ∙ z))

    pub text_refused : w.number ≢ 0 → text_in (over (line w.number w.place) o') 13 ≡ sheet_text_of b
    text_refused h =
        let kept = ((write_told says).refused h).1 in
        ap₂ text_in
        (ap (over (line w.number w.place)) kept ∙ ap₂ (λ i j. over (line i j) zeros) number_is place_none)
        (sym (line-length (f.number ∷ 0 ∷ [])))
        ∙ text_of (line f.number 0) (refused_text_lem (λ z. h (number_is ∙ z)))

    pub text_told : wrote_text w o' ≡ sheet_text_of b
    text_told = text_is w o' (sheet_text_of b) text_written text_refused

  pub text_says : (o o' : List ℕ) (r : Wrote) → 559 ≤ length o → WriteSays m n vs o o' r →
      (r.number ≡ 0 → (sheet_text b ≡ take r.length o') × (20 ≤ length (sheet_text b)))
      × (r.number ≢ 0 → sheet_text b ≡ line r.number r.place)
  text_says o o' r long says =
      let same : r.number ≡ f.number =
      (write_told says).number ∙ ap (λ (g : Fault). g.number) (room_alike m n vs (length o) long) in (
        λ z.
            let (length_is, bytes) = (write_told says).written z in
            let yes_to = (write_all_yes m n vs 559).0 (sym same ∙ z) in
            let is = accepted_text (sym same ∙ z) in (
              is ∙ sym (ap (take r.length) bytes ∙ take_at (sheet_bytes m n vs) _ r.length (sym length_is)),
              rw is (rw (sheet_length m n vs) (at_least m n (yes_to 0).0 (yes_to 1).0)),
            ),
        λ h. refused_text_lem (λ z. h (same ∙ z)) ∙ ap₂ line (sym same) (sym (write_told says).place),
      )
    where
      at_least : (m n : ℕ) → 1 ≤ m → 1 ≤ n → 20 ≤ 13 + m * line_length n
      at_least m n h g =
          omega (arith, product_small 1 7 m (line_length n) h (omega (arith, pow-le-pow_right {n = 2} (lit< tt) g)))

  pub text_longest : length (sheet_text b) ≤ 559
  text_longest =
      elim (ℕ_discrete f.number 0) [
        | yes z ↦
            let yes_to = (write_all_yes m n vs 559).0 z in
            rw (accepted_text z) (rw (sheet_length m n vs) (bytes_small m n (yes_to 0).1 (yes_to 1).1))
        | no h ↦ rw (refused_text_lem h) (omega (arith, line-length (f.number ∷ 0 ∷ [])))
      ]

-- a field or too large a number, as std says it
pub typed_or : (f : Result ℕ ℕ) → result_unwrap_or f 1000000 ≡ or_too_large f
typed_or (Ok v) = refl
typed_or (Err at) = refl

-- numbers in fields are read as they are
typed_in : (l : List ℕ) (k : ℕ) → k < length l → get_or l k 0 ≤ 999999 → typed (fields_of l) k ≡ get_or l k 0
typed_in l k h small = ap or_too_large (listed-read l k h small)

pub typed_fields : (m n : ℕ) (vs : List ℕ) → ((k : ℕ) → get_or (m ∷ n ∷ vs) k 0 ≤ 999999) →
    let b = fields_of (m ∷ n ∷ vs) in (typed b 0 ≡ m) × (typed b 1 ≡ n) × (typed_list b ≡ vs)
typed_fields m n vs small =
    let l = m ∷ n ∷ vs in
    let b = fields_of l in
    let many : (length b + 5) / 6 - 2 ≡ length vs = omega (arith, fields_length l) in (
      typed_in l 0 (omega arith) (small 0),
      typed_in l 1 (omega arith) (small 1),
      ap (λ k. tabulate k 2 (typed b)) many
          ∙ ext_get_or 0 (tabulate (length vs) 2 (typed b)) vs (tabulate-length (length vs) 2 (typed b)) (λ k h.
          let less : k < length vs = omega (arith, tabulate-length (length vs) 2 (typed b)) in
          let place : 2 + k ≡ suc (suc k) = omega arith in
          tabulate-at (length vs) 2 (typed b) k 0 less ∙ ap (typed b) place
          ∙ typed_in l (suc (suc k)) (omega arith) (small (suc (suc k)))),
    )

-- and bytes that are written are numbers in fields
good_field : (f : Result ℕ ℕ) → or_too_large f ≤ 9999 → f ≡ Ok (or_too_large f)
good_field (Ok v) h = refl
good_field (Err at) h = absurd (omega arith)

module _ (b : List ℕ) (long : 13 < length (sheet_text b)) where
  abbrev l : List ℕ
  l = typed b 0 ∷ typed b 1 ∷ typed_list b

  yes_to : (j : ℕ) → ListQuestion (typed b 0) (typed b 1) (typed_list b) 559 j
  yes_to =
      (write_all_yes (typed b 0) (typed b 1) (typed_list b) 559).0
      (elim (ℕ_discrete (f b).number 0) [
        | yes z ↦ z
        | no h ↦ absurd (omega (arith, ap length (refused_text_lem b h), line-length ((f b).number ∷ 0 ∷ [])))
      ])

  small : (k : ℕ) → get_or l k 0 ≤ 9999
  small zero = omega (arith, yes_to 0)
  small (suc zero) = omega (arith, yes_to 1)
  small (suc (suc k)) = yes_to 3 k

  abbrev many : ℕ
  many = (length b + 5) / 6 - 2

  some : 1 ≤ many
  some =
      omega (
        arith,
        yes_to 2,
        tabulate-length many 2 (typed b),
        product_small 1 1 (typed b 0) (2 ^ typed b 1 - 1)
            (yes_to 0).0 (omega (arith, pow-le-pow_right {n = 2} (lit< tt) (yes_to 1).0)),
      )

  each : (k : ℕ) → k < 2 + many → (6 * k + 6 ≤ length b) × (take 6 (drop (6 * k) b) ≡ columns 6 (typed b k))
  each k h =
      let is : get_or l k 0 ≡ typed b k = at_place k h in
      let (room, _, columns_are) = (field_canonical b (6 * k) (typed b k)).0
      (good_field (field_at (6 * k) b) (omega (arith, is, small k))) in
      (room, columns_are)
    where
      at_place : (k : ℕ) → k < 2 + many → get_or l k 0 ≡ typed b k
      at_place zero h = refl
      at_place (suc zero) h = refl
      at_place (suc (suc k)) h =
          let next : 2 + k ≡ suc (suc k) = omega arith in
          tabulate-at many 2 (typed b) k 0 (omega arith) ∙ ap (typed b) next

  pub text_fields : (b ≡ fields_of l) × ((k : ℕ) → get_or l k 0 ≤ 9999)
  text_fields = (
    fields_listed (suc (suc many)) b (typed b) (omega (arith, some, (each (1 + many) (omega arith)).0))
        (λ j h. (each j (omega arith)).1),
    small,
  )
