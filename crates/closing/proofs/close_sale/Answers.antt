-- `closing::close_sale` meets its contract.
use Rattle.std.proofs.Common.{◌≡◌, refl, ap, ◌∙◌, get_or}
use Rattle.std.specs.Option.{unwrap_or}
use Rattle.theory.specs.Lists.{first}
use Rattle.totals.proofs.Listed.{first_found}
use Rattle.closing.specs.Supplies.{demand_sets, economy_closes}
use Rattle.closing.proofs.Closings.{closing_is}
use Rattle.closing.proofs.close_sale.Goals as goal

pub returns : goal.returns
returns c O lent =
    let market = c.args.market.now in
    let bidders = market.bidders in
    let quotes = market.quotes in
    let d = c.demands-demands in
    let revenues = c.greatest_totals-revenues in
    let word = c.unwrap_or-word in
    let reached = rw (d.ensures.1, d.ensures.2) at revenues.ensures.0 in
    let found : word.result
    ≡ first (economy_closes bidders.low bidders.buyers (demand_sets bidders.low bidders.buyers quotes.bundles
    quotes.worths.now quotes.prices.now) quotes.prices.now 0 (get_or revenues.result 0 0)) 0 c.args.list.now =
    word.ensures ∙ ap (λ r. unwrap_or r 0) c.first_in_economy.ensures ∙ first_found _ c.args.list.now
    ∙ rw (d.ensures.0, d.ensures.1, d.ensures.2) refl in
    let payments = rw (d.ensures.1, d.ensures.2) at c.payments-payments.ensures in
    closing_is O c.args.list.now quotes.worths.now quotes.prices.now bidders.low bidders.buyers quotes.bundles lent
    revenues.result (λ e h. (reached e h).is) word.result found c.owners_of-owners.result
    c.discounts-discounts.result c.payments-payments.result c.owners_of-owners.ensures c.discounts-discounts.ensures
    payments
