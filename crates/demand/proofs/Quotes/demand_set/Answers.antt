use Rattle.std.proofs.Common.{◌<◌, arith}
use Rattle.demand.specs.Demands.{quoted}
use Rattle.demand.proofs.Loops.{gathered_none, gathered_in, gathered_out, gathered_all}
use Rattle.demand.proofs.Quotes.demand_set.Goals as goal
use Rattle.demand.proofs.Quotes.demand_set.Goals.{then-wants, else-wants}

pub loop-s-init : goal.loop-s-init
loop-s-init c =
    gathered_none ((quoted c.args.self.now.bundles c.args.self.now.worths.now c.args.self.now.prices.now).wants c.args.i) c.args.self.now.bundles

pub loop-s-preserved : goal.loop-s-preserved
loop-s-preserved c =
    let wants = (quoted c.args.self.now.bundles c.args.self.now.worths.now c.args.self.now.prices.now).wants c.args.i in
    let h : c.loop-s.s < c.args.self.now.bundles = c.loop-s-test.true in
    elim c.if-wants.branch [
      | then-wants w ↦
          gathered_in wants c.args.self.now.bundles c.loop-s.s c.loop-s.set _ c.loop-s.invariant h c.wants.result
          c.wants.ensures c.if-wants.set w.if-wants.true w.power-set.result w.power-set.ensures.is w.set-is
      | else-wants w ↦
          gathered_out wants c.args.self.now.bundles c.loop-s.s c.loop-s.set _ c.loop-s.invariant h c.wants.result
          c.wants.ensures c.if-wants.set w.if-wants.false w.set-is
    ]

pub returns : goal.returns
returns c =
    gathered_all ((quoted c.args.self.now.bundles c.args.self.now.worths.now c.args.self.now.prices.now).wants c.args.i) c.args.self.now.bundles
    c.loop-s.s c.loop-s.set _ c.loop-s.invariant (omega arith)
