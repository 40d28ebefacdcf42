-- `lines::bundles` meets its contract.
use Rattle.numbers.proofs.Numbers.{no_higher}
use Rattle.lines.proofs.bundles.Goals as goal

pub returns : goal.returns
returns c = no_higher c.power.ensures 4 c.requires
