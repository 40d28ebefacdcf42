-- `promises::promises_hold` meets its contract.
use Rattle.promises.proofs.Promises.{promises_hold}
use Rattle.promises.proofs.Witnesses.{witnesses}
use Rattle.promises.proofs.promises_hold.Goals as goal

pub returns : goal.returns
returns c = (promises_hold, witnesses)
