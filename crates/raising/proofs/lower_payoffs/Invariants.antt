-- `raising::lower_payoffs` meets its contract. The invariant: the first i payoffs are lowered.
use Rattle.theory.proofs.Loops.{Revised}
use Rattle.raising.proofs.Counting.{Lowered}
use Rattle.raising.proofs.lower_payoffs.Given as goal

abbrev pub invariant-loop-i : goal.invariant-loop-i
invariant-loop-i l =
    Revised (Lowered l.initial.payoffs l.set) 6 l.initial.payoffs l.i l.payoffs
