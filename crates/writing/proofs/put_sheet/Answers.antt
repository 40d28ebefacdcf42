-- `writing::put_sheet` meets its contract.
use Rattle.writing.proofs.Answers.{parts_written}
use Rattle.writing.proofs.put_sheet.Goals as goal

pub returns : goal.returns
returns c =
    let z = c.args.size in
    parts_written z.buyers z.lots c.args.worths.now c.args.out.now c.put_line.new.out c.put_rows.new.out
    c.requires.1 c.put_line.ensures c.put_rows.ensures
