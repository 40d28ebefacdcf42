-- `Settled::from` meets its contract.
use Rattle.std.proofs.Common.{ap, ◌∙◌}
use Rattle.sale.specs.Answers.{refused_settled}
use Rattle.sale.proofs.SettledFromRefusal.from.Goals as goal

pub returns : goal.returns
unfolding refused_settled
returns c = c.refused_settled.ensures ∙ ap refused_settled c.from-fault.ensures
