-- `totals::set_of` meets its contract. The invariant: those below place i that own something are in the set.
use Rattle.std.proofs.Common.{suc}
use Rattle.theory.specs.Coalitions.{holder}
use Rattle.demand.proofs.Loops.{Gathered}
use Rattle.lists.specs.Words.{word_market}
use Rattle.totals.specs.Totals.{word_holders}
use Rattle.totals.proofs.set_of.Given as goal

abbrev pub invariant-loop-i : goal.invariant-loop-i
invariant-loop-i l =
    Gathered (λ j. holder (word_market 1 l.buyers) l.word (suc j)) l.buyers l.i l.set (word_holders l.buyers l.word)
