use Rattle.std.proofs.Common.{◌^◌, arith}
use Rattle.theory.proofs.Loops.{most_more}
use Rattle.supply.proofs.Choosing.{counted, best_rises, best_outside, best_stays}
use Rattle.supply.proofs.Economies.revenue.Goals as goal
use Rattle.supply.proofs.Economies.revenue.Goals.{then-best-gains+then-is_inside, else-best-gains}
use Rattle.supply.proofs.Economies.revenue.Goals.{else-best-gains-via-then-best-gains+else-is_inside}
use Rattle.supply.proofs.Economies.revenue.Goals.{else-best-gains-via-else-best-gains}

pub loop-k-preserved : goal.loop-k-preserved
loop-k-preserved c =
    let l = c.loop-k in
    let z = c.args in
    let m = z.self.buyers in
    let best = c.if-best-gains.best in
    let step =
    most_more (2 ^ m) l.k (omega (arith, c.loop-k-test.true)) (counted m z.gains.now z.economy) l.best best _
    l.invariant in
    elim c.if-best-gains.branch [
      | then-best-gains+then-is_inside w ↦
          step (best_rises m z.gains.now z.economy l.k l.best best
          w.if-best-gains.true _ w.is_inside.ensures w.if-is_inside.true w.best-is)
      | else-best-gains w ↦ elim w.else-best-gains.branch [
        | else-best-gains-via-then-best-gains+else-is_inside v ↦
            step (best_outside m z.gains.now z.economy l.k l.best best _
            v.is_inside.ensures v.if-is_inside.false w.best-is)
        | else-best-gains-via-else-best-gains v ↦
            step (best_stays m z.gains.now z.economy l.k l.best best v.if-best-gains.false w.best-is)
      ]
    ]
