-- `sale::refused_demand` meets its contract.
use Rattle.std.proofs.Common.{refl}
use Rattle.sale.specs.Answers.{refused_demand}
use Rattle.sale.proofs.refused_demand.Goals as goal

pub returns : goal.returns
unfolding refused_demand
returns c = refl
