-- `supply::keen_set` meets its contract. The invariant: the set is that of the first i buyers that are keen.
use Rattle.std.proofs.Common.{◌≡◌}
use Rattle.owners.specs.Owners.{number}
use Rattle.supply.proofs.Choosing.{keen}
use Rattle.supply.proofs.keen_set.Given as goal

abbrev pub invariant-loop-i : goal.invariant-loop-i
invariant-loop-i l = l.set ≡ number l.i 1 (keen l.payoffs)
