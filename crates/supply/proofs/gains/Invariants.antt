-- `supply::gains` meets its contract. The invariant: the gains of the first k sets stand in their places.
use Rattle.theory.specs.Coalitions.{gain}
use Rattle.theory.proofs.Loops.{Filled}
use Rattle.owners.specs.Quick.{roster}
use Rattle.supply.specs.Supply.{shift, at, payoff_at}
use Rattle.supply.proofs.gains.Given as goal

abbrev pub invariant-loop-k : goal.invariant-loop-k
invariant-loop-k l = Filled (gain (roster l.buyers) shift (at l.values) (payoff_at l.payoffs)) 64 l.k l.next
