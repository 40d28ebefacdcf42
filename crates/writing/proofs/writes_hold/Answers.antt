-- `writing::writes_hold` meets its contract.
use Rattle.writing.proofs.Writes.{writes_all}
use Rattle.writing.proofs.writes_hold.Goals as goal

pub returns : goal.returns
returns c = writes_all
