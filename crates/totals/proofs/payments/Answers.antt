-- `totals::payments` meets its contract.
use Rattle.std.proofs.Common.{rules}
use Rattle.offers.specs.Places.{at_place, per_buyer}
use Rattle.theory.proofs.Arrays.{made_by}
use Rattle.totals.specs.Totals.{word_payment}
use Rattle.totals.proofs.payments.Goals as goal

pub returns : goal.returns
unfolding per_buyer
returns c =
    let t = c.args.table.now in
    made_by _ (at_place t.bidders.buyers (word_payment c.args.greatest t.numbers.now c.args.word)) 6 _
    (λ i y d h call. search rules) _ c.from_fn.ensures.items
