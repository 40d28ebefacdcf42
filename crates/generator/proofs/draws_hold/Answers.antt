-- `generator::draws_hold` meets its contract.
use Rattle.generator.proofs.Draws.{draws_all}
use Rattle.generator.proofs.draws_hold.Goals as goal

pub returns : goal.returns
returns c = draws_all
