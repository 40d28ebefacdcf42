-- `writing::write_sheet` meets its contract.
use Rattle.std.proofs.Common.{sym, subst}
use Rattle.writing.specs.Answers.{WriteSays}
use Rattle.writing.proofs.Answers.{says_refused, fills_sized, says_sized}
use Rattle.writing.proofs.write_sheet.Goals as goal

pub put_sheet-requires : goal.put_sheet-requires
put_sheet-requires c =
    let z = c.args in
    let s = c.in-Ok in
    fills_sized z.buyers z.lots z.worths.now z.out.now s.size s.ensures.size s.ensures.fault

pub returns-in-Ok : goal.returns-in-Ok
returns-in-Ok c =
    let z = c.args in
    let s = c.in-Ok in
    says_sized z.buyers z.lots z.worths.now z.out.now s.size s.ensures.size s.ensures.fault _ _ c.sheet_length.ensures.is
    c.put_sheet.ensures

pub returns-in-Err : goal.returns-in-Err
returns-in-Err c =
    let z = c.args in
    subst (WriteSays z.buyers z.lots z.worths.now z.out.now z.out.now) (sym c.into.ensures)
    (says_refused z.buyers z.lots z.worths.now z.out.now c.in-Err.refusal c.in-Err.ensures.fault)
