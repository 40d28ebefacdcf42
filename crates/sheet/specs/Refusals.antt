-- The number and place of a refusal (`fault_of`), and of an answer that may be one (`refused_as`, `told`); and the fault
-- of a question by the place that is wrong, if there is one (`fault_at`).
use Rattle.std.specs.Prelude.{ℕ, Option, Some, None, Result, Ok, Err}
use Rattle.sheet.specs.declared.Fault.{Fault}
use Rattle.sheet.specs.declared.Refusal.{Refusal}
use Rattle.sheet.specs.declared.Refusal.TheVariants.{Short, Head, Buyers, Lots, Length, Malformed, TooLarge, Falls}
use Rattle.sheet.specs.declared.Refusal.TheVariants.{Record, Buyer, Room}
use Rattle.sheet.specs.Questions.{fault}

abbrev pub fault_of : Refusal → Fault
fault_of Short = fault 1 0
fault_of Head = fault 2 0
fault_of Buyers = fault 3 0
fault_of Lots = fault 4 0
fault_of Length = fault 5 0
fault_of (Malformed p) = fault 6 p
fault_of (TooLarge p) = fault 7 p
fault_of (Falls p) = fault 8 p
fault_of Record = fault 9 0
fault_of Buyer = fault 10 0
fault_of Room = fault 11 0

abbrev pub refused_as : {T : Type 0} → Result T Refusal → Fault
refused_as (Ok x) = fault 0 0
refused_as (Err r) = fault_of r

abbrev pub fault_at : ℕ → Option ℕ → Fault
fault_at q None = fault 0 0
fault_at q (Some p) = fault q p

-- the answer, or that of a refusal
abbrev pub told : {T : Type 0} → (Fault → T) → Result T Refusal → T
told refused (Ok x) = x
told refused (Err r) = refused (fault_of r)
