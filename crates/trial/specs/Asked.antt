-- The questions that are put to a trial's numbers alone, 3, 4 and 7 of rule 12.5 (`numbers_fault`).
use Rattle.std.specs.Prelude.{ℕ, leb}
use Rattle.sheet.specs.declared.Fault.{Fault}
use Rattle.sheet.specs.Questions.{fault, ask, between}

abbrev pub numbers_fault : ℕ → ℕ → ℕ → Fault
numbers_fault m n top =
    ask 3 (between 6 m) λ _.
    ask 4 (between 4 n) λ _.
    ask 7 (leb top 9999) λ _.
    fault 0 0
