-- `generator::draw` meets its contract.
use Rattle.std.proofs.Common.{refl}
use Rattle.generator.specs.Xorwow.{drawn}
use Rattle.generator.proofs.draw.Goals as goal

pub returns : goal.returns
unfolding drawn
returns c = refl
