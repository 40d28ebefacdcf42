-- `starred::starred_hold` meets its contract.
use Rattle.starred.proofs.Starred.{starred}
use Rattle.starred.proofs.Example.{example}
use Rattle.starred.proofs.starred_hold.Goals as goal

pub returns : goal.returns
returns c = (starred, example)
