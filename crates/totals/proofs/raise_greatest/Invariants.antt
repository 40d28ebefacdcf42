-- `totals::raise_greatest` meets its contract. The invariant: the economies below e have been raised, and the others
-- not.
use Rattle.theory.proofs.Loops.{Revised}
use Rattle.totals.proofs.Digits.{raised_to}
use Rattle.totals.proofs.raise_greatest.Given as goal

abbrev pub invariant-loop-e : goal.invariant-loop-e
invariant-loop-e l = Revised (raised_to l.word l.total l.initial.greatest) 7 l.initial.greatest l.e l.greatest
