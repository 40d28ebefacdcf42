-- `closing::Demands::is_supplied` meets its contract.
use Rattle.std.proofs.Common.{not, is_some, sym, ap, ◌∙◌}
use Rattle.theory.specs.Tests.{some}
use Rattle.closing.specs.Supplies.{economy_closes}
use Rattle.closing.proofs.Supplies.{none_closes, some_found}
use Rattle.closing.proofs.Demands.is_supplied.Goals as goal

pub returns-then-is_none : goal.returns-then-is_none
returns-then-is_none c =
    let d = c.args.self.now in
    let bidders = d.prices.bidders in
    let ps = d.prices.numbers.now in
    sym (none_closes bidders.low bidders.buyers d.sets ps c.args.absent _ c.args.list.now
    (sym (some_found (economy_closes bidders.low bidders.buyers d.sets ps c.args.absent 0) c.args.list.now)
    ∙ ap is_some (sym c.first_in_economy-any.ensures)
    ∙ c.is_none.ensures
    ∙ ap not c.if-is_none.true))

pub returns : goal.returns
returns c =
    let d = c.args.self.now in
    let bidders = d.prices.bidders in
    let closes = economy_closes bidders.low bidders.buyers d.sets d.prices.numbers.now c.args.absent in
    c.is_some.ensures
    ∙ ap is_some c.first_in_economy-word.ensures
    ∙ some_found (closes c.greatest_total-revenue.result) c.args.list.now
    ∙ ap (λ T. some (closes T) c.args.list.now) c.greatest_total-revenue.ensures
