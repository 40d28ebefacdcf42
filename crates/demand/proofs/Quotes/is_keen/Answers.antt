-- `demand::is_keen` meets its contract.
use Rattle.std.proofs.Common.{ap}
use lib.Dec.{ltb}
use Rattle.demand.proofs.Quotes.is_keen.Goals as goal

pub returns : goal.returns
returns c = ap (ltb 65535) c.best_of.ensures.is
