-- `Demand::from` meets its contract.
use Rattle.std.proofs.Common.{ap, ◌∙◌}
use Rattle.sale.specs.Answers.{refused_demand}
use Rattle.sale.proofs.DemandFromRefusal.from.Goals as goal

pub returns : goal.returns
unfolding refused_demand
returns c = c.refused_demand.ensures ∙ ap refused_demand c.from-fault.ensures
