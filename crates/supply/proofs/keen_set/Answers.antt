use Rattle.std.proofs.Common.{arith}
use Rattle.owners.proofs.Bits.{number_small}
use Rattle.supply.proofs.Choosing.{keen, keen_none, keen_in, keen_out, keen_all}
use Rattle.supply.proofs.keen_set.Goals as goal
use Rattle.supply.proofs.keen_set.Goals.{then-payoffs-i-ge1, else-payoffs-i-ge1}

pub loop-i-init : goal.loop-i-init
loop-i-init c = keen_none c.args.payoffs.now

pub overflow_add-set : goal.overflow_add-set
overflow_add-set c =
    omega (
      arith,
      c.loop-i.invariant,
      number_small c.loop-i.i 1 (keen c.args.payoffs.now) (omega arith),
      c.power-set.ensures.most,
    )

pub loop-i-preserved : goal.loop-i-preserved
loop-i-preserved c =
    let l = c.loop-i in
    elim c.if-payoffs-i-ge1.branch [
      | then-payoffs-i-ge1 w ↦
          keen_in l.i l.set c.args.payoffs.now l.invariant _ w.if-payoffs-i-ge1.true _ w.power-set.ensures.is w.set-is
      | else-payoffs-i-ge1 w ↦
          keen_out l.i l.set c.args.payoffs.now l.invariant _ w.if-payoffs-i-ge1.false w.set-is
    ]

pub returns : goal.returns
returns c = keen_all c.args.buyers c.loop-i.i _ c.args.payoffs.now c.requires (omega arith) c.loop-i.invariant
