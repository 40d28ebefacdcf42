-- The questions put to a sheet (rules 3.1 to 3.8), as tests. Offers the fault of a sheet (`sheet_fault`): the number
-- and place of the first "no", 0 and 0 for none.
use Rattle.std.specs.Prelude.{Bool, true, false, not, ◌&&◌, List, ℕ, zero, suc, ◌+◌, ◌-◌, ◌*◌, ◌/◌, ◌%◌, ◌^◌, eqb, ltb}
use Rattle.std.specs.Prelude.{leb, length, get_or}
use Rattle.theory.specs.Sums.{pick}
use Rattle.theory.specs.Tests.{◌⊃◌, every, least}
use Rattle.sheet.specs.declared.Fault.{Fault}
use Rattle.fields.specs.Fields.{field_at, good}
use Rattle.sheet.specs.Sheets.{line_length, offset, Sheet, sheet_of, worth}
use Rattle.numbers.specs.Numbers.{bit}

-- a refusal's number and place, 0 and 0 for none
abbrev pub fault : ℕ → ℕ → Fault
fault k p = record { number = k; place = p }

abbrev pub accepts : Fault → Bool
accepts f = eqb f.number 0

-- what follows if every question so far was answered yes
abbrev pub onward : {A : Type 0} → Bool → (Unit {0} → A) → A → A
onward true rest other = rest tt
onward false rest other = other

-- question k, with its answer and the questions after it
abbrev pub ask : ℕ → Bool → (Unit {0} → Fault) → Fault
ask k true rest = rest tt
ask k false rest = fault k 0

-- question k put to each place of the lines, with the first "no" as `least` counts it
abbrev pub ask_each : ℕ → ℕ → ℕ → (Unit {0} → Fault) → Fault
ask_each k n zero rest = rest tt
ask_each k n (suc j) rest = fault k (offset n (j / 2 ^ n) (j % 2 ^ n))

-- the first line
abbrev pub head_good : List ℕ → Bool
head_good b = good (field_at 0 b) && (good (field_at 6 b) && eqb (get_or b 12 0) 10)

abbrev pub between : ℕ → ℕ → Bool
between k m = leb 1 m && leb m k

abbrev pub right_length : List ℕ → Sheet → Bool
right_length b w = eqb (length b) (13 + w.buyers * line_length w.lots)

-- rule 3.8: the bundle s of line i is worth no less than without any one of its lots (for a single lot that is 0)
abbrev pub grows : Sheet → ℕ → ℕ → Bool
grows w i s = every w.lots 0 (λ j. bit j s ⊃ leb (worth w i (s - 2 ^ j)) (worth w i s))

-- the "no" of questions 6, 7 and 8 at place c of line i
module _ (w : Sheet) (i c : ℕ) where
  -- a field, and not the line end
  abbrev pub is_field : Bool
  is_field = ltb (suc c) (2 ^ w.lots)

  abbrev pub malformed : List ℕ → Bool
  malformed b =
      pick is_field (not (good (field_at (offset w.lots i c) b))) (not (eqb (get_or b (offset w.lots i c) 0) 10))

  abbrev pub too_large : Bool
  too_large = is_field && ltb 9999 (worth w i (suc c))

  abbrev pub falls : Bool
  falls = is_field && not (grows w i (suc c))

-- by the question's number
abbrev pub wrong : ℕ → List ℕ → Sheet → ℕ → ℕ → Bool
wrong k b w i c = pick (eqb k 6) (malformed w i c b) (pick (eqb k 7) (too_large w i c) (falls w i c))

unfoldable pub first_wrong : ℕ → List ℕ → Sheet → ℕ
first_wrong k b w = least (w.buyers * 2 ^ w.lots) 0 (λ j. wrong k b w (j / 2 ^ w.lots) (j % 2 ^ w.lots))

-- rules 3.11 and 3.12: in order, each of the whole sheet, up to the first "no"
unfoldable pub lines_fault : List ℕ → Sheet → Fault
lines_fault b w =
    ask_each 6 w.lots (first_wrong 6 b w) λ _.
    ask_each 7 w.lots (first_wrong 7 b w) λ _.
    ask_each 8 w.lots (first_wrong 8 b w) λ _.
    fault 0 0

unfoldable pub sheet_fault : List ℕ → Fault
sheet_fault b =
    let w = sheet_of b in
    ask 1 (leb 13 (length b)) λ _.
    ask 2 (head_good b) λ _.
    ask 3 (between 6 w.buyers) λ _.
    ask 4 (between 4 w.lots) λ _.
    ask 5 (right_length b w) λ _.
    lines_fault b w
