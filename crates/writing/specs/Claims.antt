-- The questions put to a list, as propositions (`ListQuestion`), and all that is claimed of writing sheets (`Writes`).
use Rattle.std.specs.Prelude.{◌≡◌, ◌≢◌, ◌⊎◌, ◌↔◌, true, List, [], ◌∷◌, map, ℕ, min, ◌+◌, ◌-◌, ◌*◌, ◌^◌, ◌≤◌, ◌<◌}
use Rattle.std.specs.Prelude.{length, take, get_or}
use Rattle.theory.specs.Lists.{over}
use Rattle.numbers.specs.Numbers.{bit}
use Rattle.fields.specs.Fields.{fields_of, line_of}
use Rattle.sheet.specs.Sheets.{sheet_of}
use Rattle.sheet.specs.Questions.{sheet_fault}
use Rattle.sheet.specs.Answers.{worths_read}
use Rattle.writing.specs.declared.Wrote.{Wrote}
use Rattle.writing.specs.Lists.{listed, list_sheet, sheet_bytes, in_order}
use Rattle.writing.specs.Answers.{write_fault, WriteSays, typed, typed_list, sheet_text}

-- rule 11.3: the numbers of the questions, in the order in which they are asked
abbrev pub question_numbers : List ℕ
question_numbers = 3 ∷ 4 ∷ 5 ∷ 7 ∷ 8 ∷ 11 ∷ []

-- rule 11.4, in the same order
abbrev pub list_questions : ℕ → ℕ → List ℕ → ℕ → List (Type 0)
list_questions m n vs room =
    ((1 ≤ m) × (m ≤ 6))
    ∷ ((1 ≤ n) × (n ≤ 4))
    ∷ (length vs ≡ m * (2 ^ n - 1))
    ∷ ((k : ℕ) → get_or vs k 0 ≤ 9999)
    ∷ ((i s j : ℕ) → i < m → s < 2 ^ n → j < n → bit j s ≡ true → s ≢ 2 ^ j →
    listed n vs i (s - 2 ^ j) ≤ listed n vs i s)
    ∷ (13 + m * (6 * (2 ^ n - 1) + 1) ≤ room)
    ∷ []

-- that at place j, from 0 on
abbrev pub ListQuestion : ℕ → ℕ → List ℕ → ℕ → ℕ → Type 0
ListQuestion m n vs room j = get_or (list_questions m n vs room) j (Unit {0})

pub record Writes : Type 0 where
  -- demand 1: the number is that of the first question that gets a "no", 0 if there is none, and the place is 0. A
  -- refusal has length 0 and leaves the buffer as it was
  pub write_first_no : (m n : ℕ) (vs : List ℕ) (room j : ℕ) → j < 6 →
      ((write_fault m n vs room).number ≡ get_or question_numbers j 0)
      ↔ (((i : ℕ) → i < j → ListQuestion m n vs room i) × (ListQuestion m n vs room j → ⊥))
  pub write_all_yes : (m n : ℕ) (vs : List ℕ) (room : ℕ) →
      ((write_fault m n vs room).number ≡ 0) ↔ ((j : ℕ) → ListQuestion m n vs room j)
  pub write_numbers : (m n : ℕ) (vs : List ℕ) (room : ℕ) → ((write_fault m n vs room).number ≡ 0)
      ⊎ ((j : ℕ) × (j < 6) × ((write_fault m n vs room).number ≡ get_or question_numbers j 0))
  pub write_refused : (m n : ℕ) (vs o o' : List ℕ) (r : Wrote) → WriteSays m n vs o o' r →
      (r.number ≡ (write_fault m n vs (length o)).number) × (r.place ≡ 0)
      × (r.number ≢ 0 → (r.length ≡ 0) × (o' ≡ o))
  -- the questions that a list shares with a sheet are those of the sheet that it makes
  pub same_questions : (m n : ℕ) (vs : List ℕ) (room : ℕ) → (1 ≤ m) × (m ≤ 6) → (1 ≤ n) × (n ≤ 4) →
      length vs ≡ m * (2 ^ n - 1) → ((k : ℕ) → get_or vs k 0 ≤ 999999) → length (sheet_bytes m n vs) ≤ room →
      (write_fault m n vs room).number ≡ (sheet_fault (sheet_bytes m n vs)).number
  -- what is written is read as the list's table
  pub written_read : (m n : ℕ) (vs o o' : List ℕ) (r : Wrote) → WriteSays m n vs o o' r → r.number ≡ 0 →
      (r.length ≡ length (sheet_bytes m n vs)) × (o' ≡ over (sheet_bytes m n vs) o)
      × (worths_read (take r.length o')
      ≡ record { number = 0; place = 0; buyers = m; lots = n; worths = (list_sheet m n vs).worths })
  pub in_order_lem : (m n : ℕ) (vs : List ℕ) → m ≤ 6 → n ≤ 4 → length vs ≡ m * (2 ^ n - 1) →
      in_order (list_sheet m n vs) ≡ vs
  -- an accepted sheet, its numbers taken in order and written, gives its own bytes
  pub read_written : (b o o' : List ℕ) (r : Wrote) → (sheet_fault b).number ≡ 0 → length b ≤ length o →
      let w = sheet_of b in WriteSays w.buyers w.lots (in_order w) o o' r →
      (r.number ≡ 0) × (r.length ≡ length b) × (o' ≡ over b o)
  -- 559 bytes have room for every sheet; numbers above 999,999 are refused as that is, and lists of more than 91
  -- numbers as one of 91
  pub never_eleven : (m n : ℕ) (vs : List ℕ) (room : ℕ) → 559 ≤ room → (write_fault m n vs room).number ≢ 11
  pub write_capped : (m n : ℕ) (vs : List ℕ) (room : ℕ) →
      write_fault (min m 999999) (min n 999999) (map (λ v. min v 999999) vs) room ≡ write_fault m n vs room
  pub write_cut : (m n : ℕ) (vs : List ℕ) (room : ℕ) → write_fault m n (take 91 vs) room ≡ write_fault m n vs room
  -- what is printed of numbers is what is written of them, or the line of the refusal
  pub typed_fields : (m n : ℕ) (vs : List ℕ) → ((k : ℕ) → get_or (m ∷ n ∷ vs) k 0 ≤ 999999) →
      let b = fields_of (m ∷ n ∷ vs) in (typed b 0 ≡ m) × (typed b 1 ≡ n) × (typed_list b ≡ vs)
  pub text_says : (b o o' : List ℕ) (r : Wrote) → 559 ≤ length o →
      WriteSays (typed b 0) (typed b 1) (typed_list b) o o' r →
      (r.number ≡ 0 → (sheet_text b ≡ take r.length o') × (20 ≤ length (sheet_text b)))
      × (r.number ≢ 0 → sheet_text b ≡ line_of (r.number ∷ r.place ∷ []))
  pub text_longest : (b : List ℕ) → length (sheet_text b) ≤ 559
  -- and no bytes are written but numbers in six columns each
  pub text_fields : (b : List ℕ) → 13 < length (sheet_text b) → let l = typed b 0 ∷ typed b 1 ∷ typed_list b in
      (b ≡ fields_of l) × ((k : ℕ) → get_or l k 0 ≤ 9999)
