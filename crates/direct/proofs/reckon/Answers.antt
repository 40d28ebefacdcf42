-- `direct::reckon` meets its contract.
use Rattle.std.proofs.Common.{ap, ◌∙◌}
use Rattle.std.specs.Prelude.{unwrap_or}
use lib.Dec.{eqb}
use lib.ListN.{get_or}
use Rattle.totals.specs.Totals.{word_total}
use Rattle.totals.proofs.Digits.{greatest_small}
use Rattle.totals.proofs.Listed.{first_found}
use Rattle.direct.proofs.Reckoning.{reckoned_is}
use Rattle.direct.proofs.reckon.Goals as goal

pub payments-payments-requires : goal.payments-payments-requires
payments-payments-requires c =
    let g = c.greatest_totals-greatest in
    greatest_small c.args.worths.now.bidders.buyers _ g.result _ g.ensures.0 g.ensures.1

pub returns : goal.returns
returns c O all lent =
    let ws = c.args.worths.now in
    let low = ws.bidders.low in
    let m = ws.bidders.buyers in
    let l = c.args.list.now in
    let g = c.greatest_totals-greatest in
    -- the first word of the greatest total
    let found =
    c.unwrap_or-word.ensures ∙ ap (λ o. unwrap_or o 0) c.first_of_total.ensures
    ∙ first_found (λ w. eqb (word_total low m ws.numbers.now w) (get_or g.result 0 0)) l in
    reckoned_is O l ws.numbers.now low m all lent g.result (λ e h. (g.ensures.0 e h).is) c.unwrap_or-word.result found
    c.owners_of-owners.result c.payments-payments.result c.owners_of-owners.ensures c.payments-payments.ensures
