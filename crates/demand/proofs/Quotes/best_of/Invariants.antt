-- `demand::Quotes::best_of` meets its contract. The invariant: the greatest payoff so far and those of the bundles from
-- this one on give the greatest of all.
use Prim.Native.Nat.{max}
use Rattle.std.proofs.Common.{◌-◌, ◌≡◌, ◌≤◌}
use Rattle.theory.specs.Lists.{most, up_to}
use Rattle.owners.specs.Prices.{entry, layout, payoff, best}
use Rattle.demand.proofs.Quotes.best_of.Given as goal

abbrev pub invariant-loop-bundle : goal.invariant-loop-bundle
invariant-loop-bundle l =
    (l.top ≤ 131070)
    × (max l.top
    (most (payoff (layout 0 6) (entry l.self.worths.now) l.self.prices.now l.i)
    (up_to (l.self.bundles - l.bundle) l.bundle))
    ≡ best (layout 0 6) l.self.bundles (entry l.self.worths.now) l.self.prices.now l.i)
