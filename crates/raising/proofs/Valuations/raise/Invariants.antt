-- `raising::Valuations::raise` meets its contract. The invariant: the rows of the members before i are raised.
use Rattle.std.proofs.Common.{◌≡◌}
use Rattle.supply.specs.Supply.{payoff_at}
use Rattle.raising.proofs.Rising.{raised_to}
use Rattle.raising.proofs.Valuations.raise.Given as goal

abbrev pub invariant-loop-i : goal.invariant-loop-i
invariant-loop-i l =
    l.prices ≡ raised_to l.buyers l.self.bundles l.self.worths.now l.set (payoff_at l.payoffs) l.initial.prices l.i
