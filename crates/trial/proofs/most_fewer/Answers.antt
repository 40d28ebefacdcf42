use Rattle.std.proofs.Common.{◌≡◌, ◌-◌, ap, arith}
use Rattle.theory.specs.Lists.{most, up_to}
use Rattle.theory.proofs.Loops.{most_more}
use Rattle.trial.specs.Worths.{row_worth, worth_without}
use Rattle.trial.proofs.most_fewer.Goals as goal

pub loop-j-init : goal.loop-j-init
loop-j-init c =
    let z = c.args in
    let all : z.n - 0 ≡ z.n = omega arith in
    (omega arith, omega (arith, ap (λ k. most (worth_without (row_worth z.row.now) z.s) (up_to k 0)) all))

pub loop-j-preserved : goal.loop-j-preserved
loop-j-preserved c =
    let z = c.args in
    let l = c.loop-j in
    let f = c.worth_without-fewer.ensures in (
      omega (arith, f.most, c.max-most.ensures),
      most_more z.n l.j c.loop-j-test.true (worth_without (row_worth z.row.now) z.s) l.most c.max-most.result _
          l.invariant.1 (omega (arith, f.is, c.max-most.ensures)),
    )
