-- `supply::subsets` meets its contract.
use Rattle.supply.proofs.Words.{table_subsets}
use Rattle.supply.proofs.subsets.Goals as goal

pub returns : goal.returns
returns c = table_subsets
