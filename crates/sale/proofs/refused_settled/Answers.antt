-- `sale::refused_settled` meets its contract.
use Rattle.std.proofs.Common.{refl}
use Rattle.sale.specs.Answers.{refused_settled}
use Rattle.sale.proofs.refused_settled.Goals as goal

pub returns : goal.returns
unfolding refused_settled
returns c = refl
