-- `raising::raise_gains` meets its contract. The invariant: the gains of the first k sets are raised.
use Rattle.theory.proofs.Loops.{Revised}
use Rattle.raising.proofs.Counting.{Gained}
use Rattle.raising.proofs.raise_gains.Given as goal

abbrev pub invariant-loop-k : goal.invariant-loop-k
invariant-loop-k l =
    Revised (Gained l.buyers l.initial.gains l.set) 64 l.initial.gains l.k l.gains
