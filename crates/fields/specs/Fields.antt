-- Fields of a lot sheet (rules 2.2 to 2.5): a number at the right of six columns. Offers the classes of bytes, the
-- field at a column (`field_at`), what reading one field answers (`field_read`), what is known after some of its
-- columns (`running_at`), and the columns in which a number is written (`columns`).
use Rattle.std.specs.Prelude.{Bool, true, false, not, ◌&&◌, List, [], ◌∷◌, ◌++◌, ℕ, zero, suc, ◌+◌, ◌-◌, ◌*◌, ◌/◌, ◌%◌}
use Rattle.std.specs.Prelude.{◌^◌, eqb, ltb, leb, length, take, drop, get_or, Option, Some, None}
use Rattle.std.specs.Prelude.{Result, Ok, Err, unwrap_or}
use Rattle.theory.specs.Sums.{pick, when}
use Rattle.theory.specs.Tests.{some}
use Rattle.theory.specs.Lists.{keep, up_to}
use Rattle.fields.specs.declared.FieldRead.{FieldRead}

-- rule 2.3: the classes of bytes
pub data Class : Type 0 where
  Blank Zero Digit Foreign : Class

abbrev pub class_of : ℕ → Class
class_of b = pick (eqb b 32) Blank (pick (eqb b 48) Zero (pick (leb 49 b && leb b 57) Digit Foreign))

-- by the class of a byte
abbrev pub on_class : {A : Type 0} → Class → A → A → A → A → A
on_class Blank a b c d = a
on_class Zero a b c d = b
on_class Digit a b c d = c
on_class Foreign a b c d = d

-- rule 2.2, column by column. The columns after a digit, with the number so far
abbrev pub digits_from : ℕ → ℕ → List ℕ → Result ℕ ℕ
digits_from at v [] = Ok v
digits_from at v (b ∷ bs) =
    let r = digits_from at (10 * v + (b - 48)) bs in on_class (class_of b) (Err at) r r (Err at)

-- a zero that comes first is the last column
abbrev pub zero_from : ℕ → List ℕ → Result ℕ ℕ
zero_from at [] = Ok 0
zero_from at (b ∷ bs) = Err at

-- the columns from the first one, or after blanks
abbrev pub field_from : ℕ → List ℕ → Result ℕ ℕ
field_from at [] = Err at
field_from at (b ∷ bs) =
    let r = field_from at bs in let d = digits_from at (b - 48) bs in
    on_class (class_of b) r (zero_from at bs) d (Err at)

-- the field at a column (rules 2.4 and 2.5): a fault with fewer than six bytes left, and known by the column asked
abbrev pub field_at : ℕ → List ℕ → Result ℕ ℕ
field_at at s = let f = field_from at (take 6 (drop at s)) in pick (ltb (length s) (at + 6)) (Err at) f

-- rule 2.5: six further on, or the end of the sheet
abbrev pub next_column : ℕ → List ℕ → ℕ
next_column at s = pick (ltb (length s) (at + 6)) (length s) (at + 6)

-- rule 2.4: what reading a field answers
abbrev pub field_read : List ℕ → ℕ → FieldRead
field_read s at = record { next = next_column at s; field = field_at at s }

abbrev pub good : Result ℕ ℕ → Bool
good (Ok v) = true
good (Err at) = false

-- the number, 0 for a fault
abbrev pub number_of : Result ℕ ℕ → ℕ
number_of (Ok v) = v
number_of (Err at) = 0

abbrev pub number_at : ℕ → List ℕ → ℕ
number_at at b = number_of (field_at at b)

-- a decimal digit: the zero too
abbrev pub is_digit : ℕ → Bool
is_digit b = on_class (class_of b) false true true false

-- the sum of the digits, each times 10 ^ k where k of them come after it
abbrev pub digits_sum : List ℕ → ℕ
digits_sum [] = 0
digits_sum (b ∷ bs) = when (is_digit b) ((b - 48) * 10 ^ length (keep is_digit bs)) + digits_sum bs

-- whether a byte breaks rule 2.2, by whether a digit comes before it, and a column after it: a blank after a digit, a
-- zero that is the first digit and not in the last column, a foreign byte
abbrev pub breaks_rule : Bool → Bool → ℕ → Bool
breaks_rule before after b = on_class (class_of b) before (not before && after) false true

-- whether column j does, counted from 0
abbrev pub breaks : List ℕ → ℕ → Bool
breaks l j = breaks_rule (some is_digit (take j l)) (ltb (suc j) (length l)) (get_or l j 0)

-- whether one of the first k columns does. Six blanks break none
abbrev pub broken_by : ℕ → List ℕ → Bool
broken_by k l = some (breaks l) (up_to k 0)

-- what is known after the first k columns of the field at a column: its offset if one is broken, or the sum if there is
-- a digit
abbrev pub running_at : ℕ → ℕ → List ℕ → Result (Option ℕ) ℕ
running_at at k l =
    let number : Option ℕ = pick (some is_digit (take k l)) (Some (digits_sum (take k l))) None in
    pick (broken_by k l) (Err at) (Ok number)

-- the number so far, 0 if a column is broken or there is no digit
abbrev pub running_value : Result (Option ℕ) ℕ → ℕ
running_value (Ok number) = unwrap_or number 0
running_value (Err at) = 0

-- the k digits of a number below 10 ^ k, and the number in k columns: a blank for each digit that it lacks, but for the
-- last
abbrev pub digits : ℕ → ℕ → List ℕ
digits zero v = []
digits (suc k) v = (48 + v / 10 ^ k) ∷ digits k (v % 10 ^ k)

abbrev pub columns : ℕ → ℕ → List ℕ
columns zero v = []
columns (suc k) v = pick (leb 1 k && ltb v (10 ^ k)) (32 ∷ columns k v) (digits (suc k) v)

-- numbers in six columns each; with a line end, a line; and lines
abbrev pub fields_of : List ℕ → List ℕ
fields_of [] = []
fields_of (v ∷ vs) = columns 6 v ++ fields_of vs

abbrev pub line_of : List ℕ → List ℕ
line_of vs = fields_of vs ++ (10 ∷ [])

abbrev pub lines_of : List (List ℕ) → List ℕ
lines_of [] = []
lines_of (l ∷ ls) = line_of l ++ lines_of ls
