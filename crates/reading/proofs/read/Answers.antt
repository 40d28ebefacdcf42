-- `reading::read` meets its contract.
use Rattle.std.proofs.lemmas.Result.{err_from_is_err_and}
use Rattle.reading.proofs.Reading.{refused_sheet, refused_lines, small_worths, accepted_worths}
use Rattle.reading.proofs.read.Goals as goal

pub returns-in_err-size : goal.returns-in_err-size
returns-in_err-size c =
    let p = err_from_is_err_and c.from_residual.result c.from_residual.ensures.1 in
    rw (p.1, p.2) (refused_sheet c.args.sheet.now c.in_err-size.field-0.0 c.in_err-size.ensures)

pub returns-in_err-ask_lines : goal.returns-in_err-ask_lines
returns-in_err-ask_lines c =
    let r = c.from_residual-in_err-ask_lines in
    let p = err_from_is_err_and r.result r.ensures.1 in
    rw (p.1, p.2)
    (refused_lines c.args.sheet.now c.in_ok-size.size c.in_ok-size.ensures c.read_numbers-numbers.result
    c.read_numbers-numbers.ensures c.in_err-ask_lines.field-0.0 c.in_err-ask_lines.ensures)

pub narrowed-requires : goal.narrowed-requires
narrowed-requires c =
    small_worths c.args.sheet.now c.in_ok-size.size c.in_ok-size.ensures c.read_numbers-numbers.result
    c.read_numbers-numbers.ensures c.in_ok-ask_lines.ensures

pub returns : goal.returns
returns c =
    accepted_worths c.args.sheet.now c.in_ok-size.size c.in_ok-size.ensures c.read_numbers-numbers.result
    c.read_numbers-numbers.ensures c.in_ok-ask_lines.ensures c.narrowed.result c.narrowed.ensures
