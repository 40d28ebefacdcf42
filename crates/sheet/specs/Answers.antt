-- What the public functions that read a sheet answer, refused or not: `worths_read`, `sheet_read`; and the same by what
-- `reading::read` gives (`read_as`). (`field_read` stands in Fields.)
use Rattle.std.specs.Prelude.{List, ℕ, replicate, Result, Ok, Err}
use Rattle.theory.specs.Sums.{pick, when}
use Rattle.sheet.specs.declared.Fault.{Fault}
use Rattle.sheet.specs.declared.LotSheet.{LotSheet}
use Rattle.sheet.specs.declared.Read.{Read}
use Rattle.sheet.specs.declared.Refusal.{Refusal}
use Rattle.sheet.specs.declared.Worths.{Worths}
use Rattle.sheet.specs.Sheets.{Sheet, sheet_of}
use Rattle.sheet.specs.Questions.{accepts, sheet_fault}
use Rattle.sheet.specs.Refusals.{fault_of}

-- rule 3.14: number and place, and zeros
unfoldable pub refusal : ℕ → ℕ → Worths
refusal k p = record { number = k; place = p; buyers = 0; lots = 0; worths = replicate 96 0 }

-- by the fault and what the bytes say
unfoldable pub worths_by : Fault → Sheet → Worths
worths_by f w =
    record {
      number = f.number;
      place = f.place;
      buyers = when (accepts f) w.buyers;
      lots = when (accepts f) w.lots;
      worths = pick (accepts f) w.worths (replicate 96 0);
    }

unfoldable pub worths_read : List ℕ → Worths
worths_read b = worths_by (sheet_fault b) (sheet_of b)

-- the same without the worths
unfoldable pub sheet_read : List ℕ → Read
sheet_read b =
    let r = worths_read b in record { number = r.number; place = r.place; buyers = r.buyers; lots = r.lots }

-- a refusal as these answers
abbrev pub refused_worths : Refusal → Worths
refused_worths r = refusal (fault_of r).number (fault_of r).place

abbrev pub refused_read : Refusal → Read
refused_read r = record { number = (fault_of r).number; place = (fault_of r).place; buyers = 0; lots = 0 }

-- an accepted sheet, or a refusal
abbrev pub read_as : Result LotSheet Refusal → Worths
read_as (Ok s) = record { number = 0; place = 0; buyers = s.size.buyers; lots = s.size.lots; worths = s.worths }
read_as (Err r) = refused_worths r
