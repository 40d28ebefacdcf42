-- `rounds::run_rounds` meets its contract. The invariant: the rounds are going on, by coalition values, with what is
-- kept (`Running`); when they end they are those of whatever offer the words are of (`sold`).
use Rattle.rounds.specs.Rounds.{Opens}
use Rattle.rounds.proofs.Selling.{Running}
use Rattle.rounds.proofs.run_rounds.Given as goal

abbrev pub invariant-loop-n : goal.invariant-loop-n
invariant-loop-n l =
    (opens : Opens l.buyers l.last l.bundles l.worths l.initial.prices l.limit l.initial.log)
    × Running l.buyers l.last l.bundles l.list l.worths l.initial.prices l.limit opens.most l.initial.log l.prices l.log
    l.n l.kept
