-- `sale::refused_sale` meets its contract.
use Rattle.std.proofs.Common.{refl}
use Rattle.sale.specs.Answers.{refused_sale}
use Rattle.sale.proofs.refused_sale.Goals as goal

pub returns : goal.returns
unfolding refused_sale
returns c = refl
