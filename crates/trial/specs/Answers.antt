-- What making a trial sheet answers and leaves in the buffer, refused or not (`TrialSays`), and what is printed of four
-- numbers in fields (`trial_text`).
use Rattle.std.specs.Prelude.{◌≡◌, Bool, ◌&&◌, List, [], ◌∷◌, ℕ, ◌+◌, ◌*◌, eqb, leb, length, replicate}
use Rattle.theory.specs.Sums.{pick, when}
use Rattle.theory.specs.Lists.{over}
use Rattle.theory.specs.Tests.{every}
use Rattle.fields.specs.Fields.{field_at, good, number_at, line_of}
use Rattle.printing.specs.declared.Text.{Text}
use Rattle.sheet.specs.declared.Fault.{Fault}
use Rattle.sheet.specs.Sheets.{line_length}
use Rattle.sheet.specs.Questions.{fault, accepts, ask, between}
use Rattle.writing.specs.declared.Wrote.{Wrote}
use Rattle.writing.specs.Lists.{sheet_bytes}
use Rattle.writing.specs.Answers.{text_in}
use Rattle.trial.specs.Worths.{trial_list}

-- rule 12.5: in order, up to the first "no"; the place is 0
unfoldable pub trial_fault : ℕ → ℕ → ℕ → ℕ → Fault
trial_fault m n top room =
    ask 3 (between 6 m) λ _.
    ask 4 (between 4 n) λ _.
    ask 7 (leb top 9999) λ _.
    ask 11 (leb (13 + m * line_length n) room) λ _.
    fault 0 0

unfoldable pub trial_bytes : ℕ → ℕ → ℕ → ℕ → List ℕ
trial_bytes N m n top = sheet_bytes m n (trial_list N m n top)

-- rule 12.6: number, place, and the length of what is written, 0 in a refusal
abbrev pub trial_answer : ℕ → ℕ → ℕ → ℕ → ℕ → Wrote
trial_answer N m n top room =
    let f = trial_fault m n top room in
    record { number = f.number; place = f.place; length = when (accepts f) (length (trial_bytes N m n top)) }

-- rule 12.6: the sheet at the front of the buffer o, whose later bytes stay; a refusal writes none
abbrev pub trial_over : ℕ → ℕ → ℕ → ℕ → List ℕ → List ℕ
trial_over N m n top o = pick (accepts (trial_fault m n top (length o))) (over (trial_bytes N m n top) o) o

-- the answer, and the buffer before and after
pub record TrialSays (N m n top : ℕ) (o o' : List ℕ) (r : Wrote) : Type 0 where
  pub answer : r ≡ trial_answer N m n top (length o)
  pub bytes : o' ≡ trial_over N m n top o

-- rule 12.8: four numbers in six columns each and nothing else, the first of them a sheet's number
unfoldable pub trial_asked : List ℕ → Bool
trial_asked b =
    eqb (length b) 24 && (every 4 0 (λ k. good (field_at (6 * k) b)) && leb (number_at 0 b) 65535)

-- rule 12.9: the sheet, or the line of a refusal; 559 bytes have room for every sheet
abbrev pub trial_lines : ℕ → ℕ → ℕ → ℕ → List ℕ
trial_lines N m n top =
    let f = trial_fault m n top 559 in
    pick (accepts f) (trial_bytes N m n top) (line_of (f.number ∷ f.place ∷ []))

unfoldable pub trial_text : List ℕ → List ℕ
trial_text b = pick (trial_asked b) (trial_lines (number_at 0 b) (number_at 6 b) (number_at 12 b) (number_at 18 b)) []

-- at the front of 559 bytes, of which the others are 0
abbrev pub as_text : List ℕ → Text 559
as_text t = text_in (over t (replicate 559 0)) (length t)

abbrev pub trial_text_of : List ℕ → Text 559
trial_text_of b = as_text (trial_text b)
