-- `lines::ask_each` meets its contract.
use Rattle.std.proofs.Common.{◌∙◌}
use Rattle.lines.proofs.Asking.{each_malformed, each_large, each_falling}
use Rattle.lines.proofs.ask_each.Goals as goal

pub returns-in-6 : goal.returns-in-6
returns-in-6 c =
    let z = c.args in
    rw c.in-6.is (c.fault_at.ensures
    ∙ each_malformed z.sheet.now z.numbers.now z.m z.n c.first_malformed.result c.first_malformed.ensures)

pub returns-in-7 : goal.returns-in-7
returns-in-7 c =
    let z = c.args in
    rw c.in-7.is (c.fault_at-in-7.ensures
    ∙ each_large z.sheet.now z.numbers.now z.m z.n c.first_large.result c.first_large.ensures)

pub returns-in_default : goal.returns-in_default
returns-in_default c =
    let z = c.args in
    c.fault_at-in_default.ensures
    ∙ each_falling z.sheet.now z.numbers.now z.m z.n z.question c.first_falling.result (assumption c.in_default)
    (assumption c.in_default) c.first_falling.ensures
