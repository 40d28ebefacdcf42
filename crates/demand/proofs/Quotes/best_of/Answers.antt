use Rattle.std.proofs.Common.{arith}
use Rattle.theory.proofs.Loops.{most_more}
use Rattle.owners.specs.Prices.{entry, layout, payoff}
use Rattle.demand.proofs.Quotes.best_of.Goals as goal

pub loop-bundle-preserved : goal.loop-bundle-preserved
loop-bundle-preserved c =
    let quotes = c.args.self.now in
    let next =
    most_more quotes.bundles c.loop-bundle.bundle c.loop-bundle-test.true
    (payoff (layout 0 6) (entry quotes.worths.now) quotes.prices.now c.args.i) c.loop-bundle.top c.max-top.result _
    c.loop-bundle.invariant.1 in (
      rw c.max-top.ensures (omega (arith, c.payoff_of.ensures.most)),
      next (rw c.max-top.ensures (omega (arith, c.payoff_of.ensures.is))),
    )
