use Rattle.std.proofs.Common.{arith}
use Rattle.theory.proofs.Loops.{revised_set}
use Rattle.raising.proofs.raise_gains.Goals as goal

pub loop-k-preserved : goal.loop-k-preserved
loop-k-preserved c =
    let l = c.loop-k in
    let a = c.args in
    revised_set _ 64 a.gains.now l.k l.gains l.invariant (omega arith) _
    (omega (arith, l.invariant.rest l.k (omega arith), c.common.ensures.is a.buyers c.requires.1))

pub returns : goal.returns
returns c = (c.loop-k.invariant.long, λ k h. c.loop-k.invariant.done k (omega arith))
