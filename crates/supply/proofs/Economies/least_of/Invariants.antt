-- `supply::Economies::least_of` meets its contract. The invariant: no revenue before e is less.
use Rattle.std.proofs.Common.{ℕ, ◌≤◌, ◌<◌}
use Rattle.supply.specs.Supply.{at}
use Rattle.supply.proofs.Economies.least_of.Given as goal

abbrev pub invariant-loop-e : goal.invariant-loop-e
invariant-loop-e l = (j : ℕ) → j < l.e → l.least ≤ at l.revenues j
