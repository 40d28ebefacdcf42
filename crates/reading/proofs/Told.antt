-- What an answer of `read` says of a sheet, to entries that go on from it: a refusal is the sheet's fault
-- (`refused_fault`, `refused_sheet_no`), and else questions 1 to 8 are all answered yes (`accepted_sheet_yes`), and the
-- sheet is what was read (`accepted_sheet`).
use mathlib.Core.Path.{◌≡◌, refl, sym, ap, ◌∙◌}
use mathlib.Core.Bool.{true, false}
use mathlib.Core.List.{List}
use Prim.Native.Nat.{ℕ}
use borrow.Author.Tests.{eq-eqb}
use Rattle.std.specs.Prelude.{Ok, Err}
use Rattle.sheet.specs.declared.LotSheet.{LotSheet}
use Rattle.sheet.specs.declared.Refusal.{Refusal}
use Rattle.sheet.specs.Sheets.{as_sheet, sheet_of}
use Rattle.sheet.specs.Questions.{accepts, sheet_fault}
use Rattle.sheet.specs.Refusals.{fault_of}
use Rattle.sheet.specs.Answers.{refusal, refused_worths, read_as, worths_read}
use Rattle.reading.proofs.Reading.{refused_no, read_refused, read_accepted}

module _ (b : List ℕ) (r : Refusal) (e : read_as (Err r) ≡ worths_read b) where
  pub refused_fault : fault_of r ≡ sheet_fault b
  unfolding refusal
  refused_fault = read_refused b (refused_worths r) e

  pub refused_sheet_no : accepts (sheet_fault b) ≡ false
  refused_sheet_no = ap accepts (sym refused_fault) ∙ refused_no r

module _ (b : List ℕ) (s : LotSheet) (e : read_as (Ok s) ≡ worths_read b) where
  pub accepted_sheet_none : (sheet_fault b).number ≡ 0
  accepted_sheet_none = (read_accepted b (read_as (Ok s)) e refl).none

  pub accepted_sheet_yes : accepts (sheet_fault b) ≡ true
  accepted_sheet_yes = eq-eqb (sheet_fault b).number 0 accepted_sheet_none

  pub accepted_sheet : as_sheet s.size.buyers s.size.lots s.worths ≡ sheet_of b
  accepted_sheet =
      let told = read_accepted b (read_as (Ok s)) e refl in rw (told.buyers, told.lots, told.worths) refl
