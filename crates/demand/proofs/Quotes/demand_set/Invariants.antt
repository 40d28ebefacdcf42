-- `demand::demand_set` meets its contract. The invariant: the demanded bundles below s are in the set.
use Rattle.owners.specs.Prices.{demand_set}
use Rattle.demand.specs.Demands.{quoted}
use Rattle.demand.proofs.Loops.{Gathered}
use Rattle.demand.proofs.Quotes.demand_set.Given as goal

abbrev pub invariant-loop-s : goal.invariant-loop-s
invariant-loop-s l =
    Gathered ((quoted l.self.bundles l.self.worths.now l.self.prices.now).wants l.i) l.self.bundles l.s l.set
    (demand_set l.self.bundles (quoted l.self.bundles l.self.worths.now l.self.prices.now) l.i)
