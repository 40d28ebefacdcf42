-- Answers that hold an enum, as numbers.
use Rattle.std.specs.Prelude.{List, ℕ, Result, Ok, Err}
use Rattle.fields.specs.Fields.{field_at, next_column}
use Rattle.hokewhuni.specs.declared.FieldAnswer.{FieldAnswer}

-- the refusal number of each case and its value: 0 and the number, or 6 and the faulty offset (the first line makes it
-- 2, with place 0)
abbrev pub field_fault : Result ℕ ℕ → ℕ
field_fault (Ok v) = 0
field_fault (Err at) = 6

abbrev pub field_value : Result ℕ ℕ → ℕ
field_value (Ok v) = v
field_value (Err at) = at

-- a field's answer: the refusal number and the value of its case, and the next column
abbrev pub field_answer : List ℕ → ℕ → FieldAnswer
field_answer s at =
    record { next = next_column at s; number = field_fault (field_at at s); value = field_value (field_at at s) }
