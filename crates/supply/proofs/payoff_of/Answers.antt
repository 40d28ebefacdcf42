use Rattle.std.proofs.Common.{◌+◌, ◌-◌, arith}
use Rattle.theory.specs.Markets.{only}
use Rattle.theory.proofs.Loops.{sum_more}
use Rattle.owners.specs.Owners.{member}
use Rattle.supply.specs.Supply.{payoff_at}
use Rattle.supply.proofs.Choosing.{pay_in, pay_out}
use Rattle.supply.proofs.payoff_of.Goals as goal
use Rattle.supply.proofs.payoff_of.Goals.{then-is_member, else-is_member}

pub loop-i-preserved : goal.loop-i-preserved
loop-i-preserved c =
    let l = c.loop-i in
    let z = c.args in
    let e = c.is_member.ensures in
    let step = sum_more (z.buyers + 1) l.i (omega arith) (only (member z.k) (payoff_at z.payoffs.now)) l.total
    c.if-is_member.total _ l.invariant.0 in
    elim c.if-is_member.branch [
      | then-is_member w ↦ (
        step (pay_in z.k l.i l.total z.payoffs.now _ e _ w.if-is_member.true w.total-is),
        omega (arith, w.total-is, l.invariant.1, c.requires.1 (l.i - 1)),
      )
      | else-is_member w ↦ (
        step (pay_out z.k l.i l.total z.payoffs.now _ e _ w.if-is_member.false w.total-is),
        omega (arith, w.total-is, l.invariant.1),
      )
    ]
