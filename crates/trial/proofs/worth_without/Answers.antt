-- `trial::worth_without` meets its contract.
use Rattle.trial.proofs.Rows.{without_all, without-some}
use Rattle.trial.proofs.worth_without.Goals as goal

pub returns-then-rest-eq0 : goal.returns-then-rest-eq0
returns-then-rest-eq0 c =
    let z = c.args in
    without_all z.row.now z.s z.j _ c.has.ensures c.if-not-has.false _ c.bundles.ensures.is c.if-rest-eq0.true

pub returns : goal.returns
returns c =
    let z = c.args in
    without-some z.row.now z.s z.j _ c.has.ensures c.if-not-has.false _ c.bundles.ensures.is c.requires.2
    c.if-rest-eq0.false
