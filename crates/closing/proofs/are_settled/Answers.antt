-- `closing::are_settled` meets its contract.
use Rattle.std.proofs.Common.{◌∙◌}
use Rattle.closing.proofs.Supplies.{settled_found}
use Rattle.closing.proofs.are_settled.Goals as goal

pub returns : goal.returns
returns c O lent =
    let market = c.args.market.now in
    let quotes = market.quotes in
    let d = c.demands in
    c.all_supplied.ensures
    ∙ rw (d.ensures.1, d.ensures.2)
    (settled_found O c.args.list.now quotes.worths.now quotes.prices.now market.bidders.low market.bidders.buyers
    quotes.bundles lent d.result.sets d.ensures.0)
