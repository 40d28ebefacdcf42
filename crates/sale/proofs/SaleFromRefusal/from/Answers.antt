-- `Sale::from` meets its contract.
use Rattle.std.proofs.Common.{ap, ◌∙◌}
use Rattle.sale.specs.Answers.{refused_sale}
use Rattle.sale.proofs.SaleFromRefusal.from.Goals as goal

pub returns : goal.returns
unfolding refused_sale
returns c = c.refused_sale.ensures ∙ ap refused_sale c.from-fault.ensures
