-- `lines::ask_lines` meets its contract.
use Rattle.std.proofs.Common.{Some, None}
use Rattle.lines.proofs.Asking.{lines-malformed, lines_large, lines-last}
use Rattle.lines.proofs.ask_lines.Goals as goal

pub returns-in-Some : goal.returns-in-Some
returns-in-Some c =
    let z = c.args in
    lines-malformed z.sheet.now z.numbers.now z.size.buyers z.size.lots c.in-Some.place c.in-Some.ensures

pub returns-in-Some-first_large : goal.returns-in-Some-first_large
returns-in-Some-first_large c =
    let z = c.args in
    lines_large z.sheet.now z.numbers.now z.size.buyers z.size.lots c.in_default.ensures c.in-Some-first_large.place
    c.in-Some-first_large.ensures

pub returns-in-Some-first_falling : goal.returns-in-Some-first_falling
returns-in-Some-first_falling c =
    let z = c.args in
    lines-last z.sheet.now z.numbers.now z.size.buyers z.size.lots c.in_default.ensures
    c.in_default-first_large.ensures (Some c.in-Some-first_falling.place) c.in-Some-first_falling.ensures

pub returns : goal.returns
returns c =
    let z = c.args in
    lines-last z.sheet.now z.numbers.now z.size.buyers z.size.lots c.in_default.ensures
    c.in_default-first_large.ensures None c.in_default-first_falling.ensures
