use Rattle.std.proofs.Common.{arith}
use Rattle.theory.proofs.Loops.{revised_none, revised_set}
use Rattle.totals.proofs.Digits.{raised_to}
use Rattle.totals.proofs.raise_greatest.Goals as goal

pub loop-e-init : goal.loop-e-init
loop-e-init c =
    let z = c.args in
    revised_none (raised_to z.word z.total z.greatest.now) 7 z.greatest.now c.requires.1

pub loop-e-preserved : goal.loop-e-preserved
loop-e-preserved c =
    let z = c.args in
    let l = c.loop-e in
    revised_set (raised_to z.word z.total z.greatest.now) 7 z.greatest.now l.e l.greatest l.invariant (omega arith) _
    (omega (arith, l.invariant.rest l.e (omega arith), c.total_in.ensures))
