-- `supply::Economies::revenue` meets its contract. The invariant: the greatest gain so far, and of the sets from k on,
-- is the greatest.
use Rattle.std.proofs.Common.{◌≡◌, max, ◌-◌, ◌^◌}
use Rattle.theory.specs.Lists.{most, up_to}
use Rattle.supply.specs.Supply.{greatest}
use Rattle.supply.proofs.Choosing.{counted}
use Rattle.supply.proofs.Economies.revenue.Given as goal

abbrev pub invariant-loop-k : goal.invariant-loop-k
invariant-loop-k l =
    max l.best (most (counted l.self.buyers l.gains l.economy) (up_to (2 ^ l.self.buyers - l.k) l.k))
    ≡ greatest l.self.buyers l.gains l.economy
