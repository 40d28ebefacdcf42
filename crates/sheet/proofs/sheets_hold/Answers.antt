-- `sheet::sheets_hold` meets its contract.
use Rattle.sheet.proofs.Accepting.{sheets_all}
use Rattle.sheet.proofs.sheets_hold.Goals as goal

pub returns : goal.returns
returns c = sheets_all
