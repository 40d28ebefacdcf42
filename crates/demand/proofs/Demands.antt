-- By a table's rows a bidder of an offer answers as the definitions say (`entry_is`, `wants_is`, `keen_is`,
-- `demand_set_is`), and is keen if it does not demand the empty bundle (`keen_empty`).
use mathlib.Core.Path.{◌≡◌, ap, ap₂}
use mathlib.Core.Bool.{not}
use mathlib.Core.List.{List}
use Prim.Native.Nat.{ℕ, ◌+◌, ◌-◌, ◌^◌}
use lib.Dec.{eqb, ltb}
use Rattle.theory.specs.Sums.{when}
use Rattle.theory.specs.Lists.{up_to}
use Rattle.theory.proofs.Sums.{sum_same}
use Rattle.theory.proofs.Lists.{most_same}
use Rattle.owners.specs.Prices.{entry, layout, payoff, best, demand_set}
use Rattle.owners.proofs.Prices.{entry_row, keen_wants}
use Rattle.owners.proofs.Sales.{priced}
use Rattle.offers.specs.Offers as offers
use Rattle.offers.specs.Offers.{Offer, Bids, worth_of, price_at}
use Rattle.offers.specs.Claims.{Regular}
use Rattle.demand.specs.Demands.{quoted}

module _ (O : Offer) (i : ℕ) (r : Bids O i) where
  pub entry_is : (t : List ℕ) (s : ℕ) → entry t i s ≡ price_at O t i s
  entry_is t s = entry_row O.low O.buyers i r.0 t s

  module _ (ps : List ℕ) where
    payoff_is : (s : ℕ) → payoff (layout 0 6) (entry O.worths) ps i s ≡ payoff (offers.layout O) (worth_of O) ps i s
    payoff_is s = ap₂ (λ x p. x + 65535 - p) (entry_is O.worths s) (entry_is ps s)

    best_is : best (layout 0 6) O.bundles (entry O.worths) ps i ≡ offers.best O ps i
    best_is = most_same _ _ (up_to O.bundles 0) (λ s m. payoff_is s)

    pub wants_is : (s : ℕ) → (quoted O.bundles O.worths ps).wants i s ≡ (offers.quote O ps).wants i s
    wants_is s = ap₂ eqb (payoff_is s) best_is

    pub keen_is : (quoted O.bundles O.worths ps).keen i ≡ offers.is_keen O ps i
    keen_is = ap (ltb 65535) best_is

    pub demand_set_is : demand_set O.bundles (quoted O.bundles O.worths ps) i ≡ offers.demand_set O ps i
    demand_set_is = sum_same O.bundles 0 _ _ (λ s q. ap (λ t. when t (2 ^ s)) (wants_is s))

    pub keen_empty : Regular O → offers.is_keen O ps i ≡ not ((offers.quote O ps).wants i 0)
    keen_empty regular =
        keen_wants
        (priced (offers.the_auction O) (offers.layout O) O.bundles (offers.bits O) O.lists regular.setting
        (worth_of O) regular.worths) ps i r
