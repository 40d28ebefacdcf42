-- `printed::prints_hold` meets its contract.
use Rattle.printed.proofs.Texts.{prints_all}
use Rattle.printed.proofs.prints_hold.Goals as goal

pub returns : goal.returns
returns c = prints_all
