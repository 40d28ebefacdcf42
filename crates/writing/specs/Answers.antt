-- What writing a sheet answers and leaves in the buffer, refused or not (`WriteSays`), the text of such an answer
-- (`wrote_text`), and what is printed of numbers in fields (`sheet_text`).
use Rattle.std.specs.Prelude.{◌≡◌, Bool, List, [], ◌∷◌, ℕ, ◌+◌, ◌-◌, ◌*◌, ◌/◌, ◌^◌, eqb, leb, length, replicate}
use Rattle.std.specs.Prelude.{Result, Ok, Err}
use Rattle.theory.specs.Sums.{pick, when}
use Rattle.theory.specs.Lists.{tabulate, over}
use Rattle.fields.specs.Fields.{field_at, line_of}
use Rattle.printing.specs.declared.Text.{Text}
use Rattle.sheet.specs.declared.Fault.{Fault}
use Rattle.sheet.specs.declared.Refusal.{Refusal}
use Rattle.sheet.specs.declared.Size.{Size}
use Rattle.sheet.specs.Sheets.{line_length, Sheet}
use Rattle.sheet.specs.Questions.{fault, accepts, ask, between, first_wrong}
use Rattle.sheet.specs.Refusals.{fault_of}
use Rattle.writing.specs.declared.Wrote.{Wrote}
use Rattle.writing.specs.Lists.{list_sheet, sheet_bytes}

-- questions 3 and 4 alone
abbrev pub size_fault : ℕ → ℕ → Fault
size_fault m n = ask 3 (between 6 m) (λ _. ask 4 (between 4 n) (λ _. fault 0 0))

-- the size of a sheet of so many buyers and lots
abbrev pub IsSize : ℕ → ℕ → Size → Type 0
IsSize m n size = (size.buyers ≡ m) × (size.lots ≡ n)

-- rule 11.4: as many numbers as the sheet has worths
abbrev pub right_count : ℕ → ℕ → List ℕ → Bool
right_count m n vs = eqb (length vs) (m * (2 ^ n - 1))

-- question 7 or 8 finds nothing wrong in a table; neither looks at bytes
abbrev pub none_wrong : ℕ → Sheet → Bool
none_wrong k w = eqb (first_wrong k [] w) 0

-- rule 11.3: in order, each of the whole list, up to the first "no"; the place is 0
unfoldable pub write_fault : ℕ → ℕ → List ℕ → ℕ → Fault
write_fault m n vs room =
    let w = list_sheet m n vs in
    ask 3 (between 6 m) λ _.
    ask 4 (between 4 n) λ _.
    ask 5 (right_count m n vs) λ _.
    ask 7 (none_wrong 7 w) λ _.
    ask 8 (none_wrong 8 w) λ _.
    ask 11 (leb (13 + m * line_length n) room) λ _.
    fault 0 0

-- rule 11.5: number, place, and the length of what is written, 0 in a refusal
abbrev pub write_answer : ℕ → ℕ → List ℕ → ℕ → Wrote
write_answer m n vs room =
    let f = write_fault m n vs room in
    record { number = f.number; place = f.place; length = when (accepts f) (length (sheet_bytes m n vs)) }

-- a refusal as an answer
abbrev pub refused_wrote : Refusal → Wrote
refused_wrote r = let f = fault_of r in record { number = f.number; place = f.place; length = 0 }

-- rule 11.5: the sheet at the front of the buffer o, whose later bytes stay; a refusal writes none
abbrev pub written_over : ℕ → ℕ → List ℕ → List ℕ → List ℕ
written_over m n vs o = pick (accepts (write_fault m n vs (length o))) (over (sheet_bytes m n vs) o) o

-- the answer, and the buffer before and after
pub record WriteSays (m n : ℕ) (vs o o' : List ℕ) (r : Wrote) : Type 0 where
  pub answer : r ≡ write_answer m n vs (length o)
  pub bytes : o' ≡ written_over m n vs o

-- rule 11.8: numbers in six columns each, one after the other. A field that is not good counts as a number that no
-- question lets pass, and so does a last one that is cut short
abbrev pub or_too_large : Result ℕ ℕ → ℕ
or_too_large (Ok v) = v
or_too_large (Err at) = 1000000

abbrev pub typed : List ℕ → ℕ → ℕ
typed b k = or_too_large (field_at (6 * k) b)

-- buyers and lots come first
abbrev pub typed_list : List ℕ → List ℕ
typed_list b = tabulate ((length b + 5) / 6 - 2) 2 (typed b)

-- the first ninety-one of them, whether they are there or not
unfoldable pub first_typed : List ℕ → List ℕ
first_typed b = tabulate 91 2 (typed b)

-- rule 11.9: the sheet, or the line of a refusal; 559 bytes have room for every sheet
unfoldable pub sheet_text : List ℕ → List ℕ
sheet_text b =
    let m = typed b 0 in
    let n = typed b 1 in
    let f = write_fault m n (typed_list b) 559 in
    pick (accepts f) (sheet_bytes m n (typed_list b)) (line_of (f.number ∷ f.place ∷ []))

-- a text in 559 bytes
abbrev pub text_in : List ℕ → ℕ → Text 559
text_in bytes long = record { bytes = bytes; length = long }

-- the text of an answer: what was written into some bytes, or the line of a refusal at their front
abbrev pub wrote_text : Wrote → List ℕ → Text 559
wrote_text w bytes =
    pick (eqb w.number 0) (text_in bytes w.length) (text_in (over (line_of (w.number ∷ w.place ∷ [])) bytes) 13)

-- at the front of 559 bytes, of which the others are 0
abbrev pub sheet_text_of : List ℕ → Text 559
sheet_text_of b = record { bytes = over (sheet_text b) (replicate 559 0); length = length (sheet_text b) }
