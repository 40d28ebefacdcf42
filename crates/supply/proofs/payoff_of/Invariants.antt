-- `supply::payoff_of` meets its contract. The invariant: the total is that of the members before i.
use Rattle.std.proofs.Common.{◌≡◌, ◌+◌, ◌-◌, ◌*◌, ◌≤◌}
use Rattle.theory.specs.Sums.{sum}
use Rattle.theory.specs.Markets.{only}
use Rattle.owners.specs.Owners.{member}
use Rattle.supply.specs.Supply.{payoff_at}
use Rattle.supply.proofs.payoff_of.Given as goal

abbrev pub invariant-loop-i : goal.invariant-loop-i
invariant-loop-i l =
    (l.total + sum (l.buyers + 1 - l.i) l.i (only (member l.k) (payoff_at l.payoffs))
    ≡ sum l.buyers 1 (only (member l.k) (payoff_at l.payoffs)))
    × (l.total ≤ 9999 * (l.i - 1))
