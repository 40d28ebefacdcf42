-- `supply::Economies::reach` meets its contract. The invariant: the words of the economies before e are gone over.
use Rattle.theory.proofs.Loops.{Revised}
use Rattle.supply.proofs.Choosing.{Reached}
use Rattle.supply.proofs.Economies.reach.Given as goal

abbrev pub invariant-loop-e : goal.invariant-loop-e
invariant-loop-e l =
    Revised (Reached l.self.buyers l.revenues l.gain l.k l.initial.words) 7 l.initial.words l.e l.words
