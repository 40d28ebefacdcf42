use Rattle.std.proofs.Common.{[], ◌∷◌, ◌+◌, refl, ap, arith}
use Rattle.fields.proofs.Lines.{line-length}
use Rattle.printing.proofs.Lines.{lines_more}
use Rattle.printed.specs.Printed.{lot_line}
use Rattle.printed.proofs.put_lots.Goals as goal

pub loop-j-preserved : goal.loop-j-preserved
loop-j-preserved c =
    let f = lot_line c.args.owners in
    let l = c.loop-j in
    lines_more f 13 (λ j. line-length (f j)) c.args.out.now l.j l.out l.invariant (omega arith) _ refl _ _
    (ap (λ x. (l.j + 1) ∷ x ∷ []) c.from.ensures) c.put_line.ensures
