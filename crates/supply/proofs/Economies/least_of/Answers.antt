use Rattle.std.proofs.Common.{arith}
use Rattle.supply.proofs.Choosing.{under_more}
use Rattle.supply.proofs.Economies.least_of.Goals as goal

pub loop-e-preserved : goal.loop-e-preserved
loop-e-preserved c =
    let l = c.loop-e in under_more c.args.revenues.now l.e l.least _ l.invariant (omega arith) (omega arith)

pub returns : goal.returns
returns c = λ e h. c.loop-e.invariant e (omega arith)
