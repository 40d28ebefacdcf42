-- `trial::most_worths` meets its contract. The invariant: the state is that after the draws so far, and the first k
-- places are filled.
use Rattle.std.proofs.Common.{◌≡◌, ◌+◌, ◌*◌}
use Rattle.theory.proofs.Loops.{Filled}
use Rattle.generator.specs.Xorwow.{after}
use Rattle.trial.specs.Worths.{trial_at}
use Rattle.trial.proofs.most_worths.Given as goal

abbrev pub invariant-loop-k : goal.invariant-loop-k
invariant-loop-k l = (l.g ≡ after (100 * l.number + l.k)) × Filled (trial_at l.number l.n l.top) 90 l.k l.t
