use Rattle.std.proofs.Common.{sym, ◌∙◌}
use Rattle.theory.proofs.Loops.{every_passed}
use Rattle.lines.proofs.Places.{grows_by, lot_lacking, lot_fine}
use Rattle.lines.proofs.grows_to.Goals as goal
use Rattle.lines.proofs.grows_to.Goals.{then-has+else-w-numbers, else-has}

pub loop-j-preserved : goal.loop-j-preserved
loop-j-preserved c =
    let z = c.args in
    let j = c.loop-j.j in
    every_passed (grows_by z.numbers.now z.i z.s) z.size.lots j _ c.loop-j-test.true c.loop-j.invariant
    (elim c.if-has.branch [
      | then-has+else-w-numbers w ↦
          lot_fine z.numbers.now z.i z.s j (sym c.has.ensures ∙ w.if-has.true) w.bundles.result w.bundles.ensures.is
          w.if-w-numbers.false
      | else-has w ↦ lot_lacking z.numbers.now z.i z.s j (sym c.has.ensures ∙ w.if-has.false)
    ])
