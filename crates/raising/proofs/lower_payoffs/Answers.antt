use Rattle.std.proofs.Common.{ap, arith}
use Rattle.theory.proofs.Loops.{revised_set}
use Rattle.theory.specs.Sums.{when}
use Rattle.raising.proofs.Counting.{one_if, Lowered, lowered_small, lowered_all}
use Rattle.raising.proofs.lower_payoffs.Goals as goal

pub loop-i-preserved : goal.loop-i-preserved
loop-i-preserved c =
    let l = c.loop-i in
    let a = c.args in
    revised_set (Lowered a.payoffs.now a.set) 6 a.payoffs.now l.i l.payoffs l.invariant (omega arith) _
    (omega (
      arith,
      l.invariant.rest l.i (omega arith),
      c.from.ensures,
      one_if c.is_member.result,
      ap (λ b. when b 1) c.is_member.ensures,
    ))

pub returns : goal.returns
returns c =
    let a = c.args in
    let l = c.loop-i in (
      l.invariant.long,
      lowered_small a.payoffs.now a.set a.buyers l.i l.payoffs l.invariant c.requires.1,
      lowered_all a.payoffs.now a.set a.buyers l.i l.payoffs l.invariant (omega arith),
    )
