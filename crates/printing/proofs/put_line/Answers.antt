use Rattle.std.proofs.Common.{◌≡◌, ◌*◌, length, arith, refl, ap, ◌∙◌}
use Rattle.std.proofs.Math.Seq.{take_all}
use Rattle.theory.specs.Lists.{over}
use Rattle.fields.specs.Fields.{line_of}
use Rattle.printing.proofs.Lines.{fields_more, line_end}
use Rattle.printing.proofs.put_line.Goals as goal

pub loop-k-preserved : goal.loop-k-preserved
loop-k-preserved c =
    fields_more c.args.numbers.now c.args.out.now c.loop-k.k c.loop-k.out c.loop-k.invariant c.loop-k.auto.k-end
    (omega arith) (omega (arith, c.requires.0)) _ refl _ c.put_field.ensures

pub returns : goal.returns
returns c =
    let ns = c.args.numbers.now in
    let e : c.loop-k.k ≡ length ns = omega arith in
    line_end ns c.args.out.now c.loop-k.k c.loop-k.out c.loop-k.invariant c.loop-k.auto.k-end
    (omega (arith, c.requires.0)) (6 * length ns) (omega arith)
    ∙ ap (λ vs. over (line_of vs) c.args.out.now) (take_all c.loop-k.k ns (omega arith))
