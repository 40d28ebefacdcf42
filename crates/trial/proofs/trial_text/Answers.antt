-- `trial::trial_text` meets its contract.
use Rattle.std.proofs.Common.{sym, ap, ◌∙◌, arith}
use Rattle.trial.specs.Answers.{as_text}
use Rattle.trial.proofs.Fields.{asked_means}
use Rattle.trial.proofs.Texts.{text_none, text_by}
use Rattle.trial.proofs.trial_text.Goals as goal

pub returns-then-not-is_asked : goal.returns-then-not-is_asked
returns-then-not-is_asked c =
    sym (ap as_text (text_none c.args.numbers.now (sym c.is_asked.ensures ∙ c.if-not-is_asked.true)))

pub overflow_cast-number : goal.overflow_cast-number
overflow_cast-number c =
    let (_, (_, low)) = (asked_means c.args.numbers.now).0 (sym c.is_asked.ensures ∙ c.if-not-is_asked.false) in
    omega (arith, c.field_number-number.ensures, low)

pub returns : goal.returns
returns c =
    c.text_of.ensures
    ∙ text_by c.args.numbers.now (sym c.is_asked.ensures ∙ c.if-not-is_asked.false) _ _ _ _
    c.field_number-number.ensures c.field_number-buyers.ensures c.field_number-lots.ensures
    c.field_number-top.ensures
