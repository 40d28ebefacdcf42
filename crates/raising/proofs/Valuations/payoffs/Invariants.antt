-- `raising::Valuations::payoffs` meets its contract. The invariant: the first i payoffs are read.
use Rattle.std.proofs.Common.{◌-◌}
use Rattle.raising.proofs.Rising.{Reading}
use Rattle.raising.proofs.Valuations.payoffs.Given as goal

abbrev pub invariant-loop-i : goal.invariant-loop-i
invariant-loop-i l = Reading (l.self.bundles - 1) l.self.worths.now l.prices l.i l.left
