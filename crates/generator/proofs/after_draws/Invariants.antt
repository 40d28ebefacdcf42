-- `generator::after_draws` meets its contract. The invariant: g is the state after so many draws as were made.
use Rattle.std.proofs.Common.{◌≡◌}
use Rattle.generator.specs.Xorwow.{after}
use Rattle.generator.proofs.after_draws.Given as goal

abbrev pub invariant-loop : goal.invariant-loop
invariant-loop l = l.g ≡ after l.counter
