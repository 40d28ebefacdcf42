-- What `text_of` answers, of a sheet that is written or refused (`lines_told`); what is printed of four numbers is what
-- is written of them (`text_says`), and of other bytes nothing is (`text_typed`); it is never long (`text_longest`).
use mathlib.Core.Path.{◌≡◌, refl, sym, ap, ap₂, ◌∙◌}
use mathlib.Core.Logic.{◌≢◌}
use mathlib.Core.Bool.{true, false}
use mathlib.Core.List.{List, [], ◌∷◌}
use Prim.Native.Nat.{ℕ, ◌+◌, ◌*◌, ◌≤◌}
use native.Mathlib.Omega.{arith}
use native.Mathlib.Decide.{ℕ_discrete}
use lib.ListN.{length, take, replicate, length-replicate}
use lib.Seq.{take_at}
use borrow.Author.Tests.{eq-eqb, ne_eqb}
use Rattle.theory.specs.Sums.{pick}
use Rattle.theory.specs.Lists.{over}
use Rattle.theory.proofs.Tests.{by_test}
use Rattle.fields.specs.Fields.{line_of, number_at}
use Rattle.fields.proofs.Lines.{line-length}
use Rattle.sheet.specs.declared.Fault.{Fault}
use Rattle.sheet.specs.Sheets.{line_length}
use Rattle.writing.specs.declared.Wrote.{Wrote}
use Rattle.writing.specs.Answers.{text_in, wrote_text}
use Rattle.writing.proofs.Answers.{sheet_length}
use Rattle.writing.proofs.Limits.{bytes_small}
use Rattle.writing.proofs.Texts.{text_is}
use Rattle.trial.specs.Worths.{trial_list}
use Rattle.trial.specs.Answers.{trial_fault, trial_bytes, TrialSays, trial_asked, trial_lines, trial_text, as_text}
use Rattle.trial.specs.Answers.{trial_text_of}
use Rattle.trial.specs.Claims.{Typed}
use Rattle.trial.proofs.Fields.{typed_asked, asked_typed}
use Rattle.trial.proofs.Questions.{trial_all_yes, trial_place_none, room_alike, never_eleven}
use Rattle.trial.proofs.Answers.{trial_told}

pub bytes_length : (N m n top : ℕ) → length (trial_bytes N m n top) ≡ 13 + m * line_length n
unfolding trial_bytes
bytes_length N m n top = sheet_length m n (trial_list N m n top)

module _ (N m n top : ℕ) where
  abbrev f : Fault
  f = trial_fault m n top 559

  abbrev b : List ℕ
  b = trial_bytes N m n top

  abbrev line : ℕ → ℕ → List ℕ
  line number place = line_of (number ∷ place ∷ [])

  accepted_lines : f.number ≡ 0 → trial_lines N m n top ≡ b
  accepted_lines z = ap (λ t. pick t b (line f.number f.place)) (eq-eqb f.number 0 z)

  refused_lines : f.number ≢ 0 → trial_lines N m n top ≡ line f.number 0
  refused_lines h =
      ap (λ t. pick t b (line f.number f.place)) (ne_eqb f.number 0 h)
      ∙ ap (line f.number) (trial_place_none m n top 559)

  lines_longest : length (trial_lines N m n top) ≤ 559
  lines_longest =
      elim (ℕ_discrete f.number 0) [
        | yes z ↦
            let yes_to = (trial_all_yes m n top 559).0 z in
            rw (accepted_lines z) (rw (bytes_length N m n top) (bytes_small m n (yes_to 0).1 (yes_to 1).1))
        | no h ↦ rw (refused_lines h) (omega (arith, line-length (f.number ∷ 0 ∷ [])))
      ]

  abbrev zeros : List ℕ
  zeros = replicate 559 0

  module _ (o' : List ℕ) (w : Wrote) (says : TrialSays N m n top zeros o' w) where
    pub place_none : w.place ≡ 0
    place_none = (trial_told says).place

    number_is : w.number ≡ f.number
    number_is =
        (trial_told says).number
        ∙ ap (λ k. (trial_fault m n top k).number) (length-replicate {A = ℕ} 559 0)

    pub lines_written : w.number ≡ 0 → text_in o' w.length ≡ as_text (trial_lines N m n top)
    lines_written z =
        let (long, bytes) = (trial_told says).written z in
        ap₂ text_in bytes long ∙ sym (ap as_text (accepted_lines (sym number_is ∙ z)))

    pub lines_refused : w.number ≢ 0 → text_in (over (line w.number w.place) o') 13 ≡ as_text (trial_lines N m n top)
    lines_refused h =
        let kept = ((trial_told says).refused h).1 in
        ap₂ text_in
        (ap (over (line w.number w.place)) kept ∙ ap₂ (λ i j. over (line i j) zeros) number_is place_none)
        (sym (line-length (f.number ∷ 0 ∷ [])))
        ∙ sym (ap as_text (refused_lines (λ z. h (number_is ∙ z))))

    pub lines_told : wrote_text w o' ≡ as_text (trial_lines N m n top)
    lines_told = text_is w o' (as_text (trial_lines N m n top)) lines_written lines_refused

-- by whether the bytes are four numbers
module _ (b : List ℕ) where
  abbrev sheet_lines : List ℕ
  sheet_lines = trial_lines (number_at 0 b) (number_at 6 b) (number_at 12 b) (number_at 18 b)

  pub text_none : trial_asked b ≡ false → trial_text b ≡ []
  unfolding trial_text
  text_none e = rw e refl

  pub text_lines : trial_asked b ≡ true → trial_text b ≡ sheet_lines
  unfolding trial_text
  text_lines e = ap (λ x. pick x sheet_lines []) e

  pub text_by : trial_asked b ≡ true → (N m n top : ℕ) → N ≡ number_at 0 b → m ≡ number_at 6 b → n ≡ number_at 12 b →
      top ≡ number_at 18 b → as_text (trial_lines N m n top) ≡ trial_text_of b
  text_by e N m n top e_n em en et =
      ap₂ (λ x y. as_text (trial_lines x y n top)) e_n em
      ∙ ap₂ (λ x y. as_text (trial_lines (number_at 0 b) (number_at 6 b) x y)) en et ∙ sym (ap as_text (text_lines e))

  pub text_longest : length (trial_text b) ≤ 559
  text_longest =
      by_test (trial_asked b)
      (λ e. rw (text_lines e) (lines_longest (number_at 0 b) (number_at 6 b) (number_at 12 b) (number_at 18 b)))
      (λ e. rw (text_none e) (omega arith))

  pub text_typed : 1 ≤ length (trial_text b) → (N : ℕ) × ((m : ℕ) × ((n : ℕ) × ((top : ℕ) × Typed b N m n top)))
  text_typed some =
      by_test (trial_asked b)
      (λ e. (number_at 0 b, (number_at 6 b, (number_at 12 b, (number_at 18 b, asked_typed b e)))))
      (λ e. absurd (omega (arith, ap length (text_none e))))

pub text_says : (b : List ℕ) (N m n top : ℕ) → Typed b N m n top → (o o' : List ℕ) (r : Wrote) → 559 ≤ length o →
    TrialSays N m n top o o' r → (r.number ≢ 11) × (r.number ≡ 0 → trial_text b ≡ take r.length o')
    × (r.number ≢ 0 → trial_text b ≡ line_of (r.number ∷ r.place ∷ []))
text_says b N m n top typed o o' r long says =
    let known = typed_asked b N m n top typed in
    let text : trial_text b ≡ trial_lines N m n top =
    text_lines b known.asked
    ∙ sym (ap₂ (λ x y. trial_lines x y n top) known.first known.second
    ∙ ap₂ (trial_lines (number_at 0 b) (number_at 6 b)) known.third known.fourth) in
    let same : r.number ≡ (f N m n top).number =
    (trial_told says).number ∙ ap (λ (g : Fault). g.number) (room_alike m n top (length o) long) in (
      λ e. never_eleven m n top 559 (omega arith) (sym same ∙ e),
      λ z.
          let (length_is, bytes) = (trial_told says).written z in
          text ∙ accepted_lines N m n top (sym same ∙ z)
          ∙ sym (ap (take r.length) bytes ∙ take_at (trial_bytes N m n top) _ r.length (sym length_is)),
      λ h.
          text ∙ refused_lines N m n top (λ z. h (same ∙ z))
          ∙ ap₂ (line N m n top) (sym same) (sym (trial_told says).place),
    )
