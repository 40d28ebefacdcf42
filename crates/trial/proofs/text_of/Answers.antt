-- `trial::text_of` meets its contract.
use Rattle.std.proofs.Common.{◌∙◌, arith}
use Rattle.trial.proofs.Texts.{place_none, lines_told}
use Rattle.trial.proofs.text_of.Goals as goal

pub text-requires : goal.text-requires
text-requires c =
    let z = c.args in
    let w = c.trial_sheet-wrote in
    omega (arith, place_none z.number z.buyers z.lots z.top _ w.result w.ensures)

pub returns : goal.returns
returns c =
    let z = c.args in
    let w = c.trial_sheet-wrote in
    c.text.ensures ∙ lines_told z.number z.buyers z.lots z.top _ w.result w.ensures
