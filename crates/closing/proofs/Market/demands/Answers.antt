-- `closing::Market::demands` meets its contract.
use Rattle.std.proofs.Common.{refl, rules}
use Rattle.theory.proofs.Arrays.{made_by}
use Rattle.closing.specs.Supplies.{demand_at, demand_sets}
use Rattle.closing.proofs.Market.demands.Goals as goal

pub returns : goal.returns
unfolding demand_sets
returns c =
    let market = c.args.self.now in
    let quotes = market.quotes in
    let asked =
    demand_at market.bidders.low market.bidders.buyers quotes.bundles quotes.worths.now quotes.prices.now in
    (made_by _ asked 7 _ (λ i y d h call. search rules) _ c.from_fn-sets.ensures.items, refl, refl)
