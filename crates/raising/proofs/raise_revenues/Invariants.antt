-- `raising::raise_revenues` meets its contract. The invariant: the revenues of the economies before e are raised.
use Rattle.theory.proofs.Loops.{Revised}
use Rattle.raising.proofs.Counting.{Raised}
use Rattle.raising.proofs.raise_revenues.Given as goal

abbrev pub invariant-loop-e : goal.invariant-loop-e
invariant-loop-e l =
    Revised (Raised l.fn.economies.buyers l.initial.revenues l.words l.set) 7 l.initial.revenues l.e l.revenues
