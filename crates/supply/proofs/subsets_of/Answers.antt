-- `supply::subsets_of` meets its contract.
use Rattle.supply.proofs.Words.{table_subsets}
use Rattle.supply.proofs.subsets_of.Goals as goal

pub returns : goal.returns
returns c = table_subsets c.args.set c.requires
