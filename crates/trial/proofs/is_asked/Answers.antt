use Rattle.std.proofs.Common.{◌*◌, sym, ◌∙◌, arith}
use Rattle.theory.proofs.Loops.{every_passed, every_failed, every_done}
use Rattle.fields.specs.Fields.{field_at, good}
use Rattle.trial.proofs.Fields.{good_fields, not_long, not_good, all_good}
use Rattle.trial.proofs.is_asked.Goals as goal

pub returns-then-numbers-ne24 : goal.returns-then-numbers-ne24
returns-then-numbers-ne24 c = not_long _ c.if-numbers-ne24.true

pub returns-then-not-field_good : goal.returns-then-not-field_good
returns-then-not-field_good c =
    let b = c.args.numbers.now in
    not_good b c.if-numbers-ne24.false
    (every_failed (λ j. good (field_at (6 * j) b)) 4 c.loop-k.k (good_fields b) (omega arith) c.loop-k.invariant
    (sym c.field_good.ensures ∙ c.if-not-field_good.true))

pub loop-k-preserved : goal.loop-k-preserved
loop-k-preserved c =
    let b = c.args.numbers.now in
    every_passed (λ j. good (field_at (6 * j) b)) 4 c.loop-k.k (good_fields b) (omega arith) c.loop-k.invariant
    (sym c.field_good.ensures ∙ c.if-not-field_good.false)

pub returns : goal.returns
returns c =
    let b = c.args.numbers.now in
    all_good b c.if-numbers-ne24.false
    (every_done (λ j. good (field_at (6 * j) b)) 4 c.loop-k.k (good_fields b) (omega arith) c.loop-k.invariant)
    c.field_number.result c.field_number.ensures
