-- `fields::fields_hold` meets its contract.
use Rattle.fields.proofs.Sums.{fields_all}
use Rattle.fields.proofs.fields_hold.Goals as goal

pub returns : goal.returns
returns c = fields_all
