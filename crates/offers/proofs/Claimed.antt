-- All that is claimed of an offer and its sale, together (`claimed`).
use Rattle.theory.proofs.Auction.{undersupplied_keen}
use Rattle.owners.proofs.Bits.{demand_below}
use Rattle.offers.specs.Offers.{Offer, market, member, the_auction, quote}
use Rattle.offers.specs.Claims.{Allocated, Claimed, Regular}
use Rattle.offers.proofs.Demanding as demanding
use Rattle.offers.proofs.Economies as economies
use Rattle.offers.proofs.Kept.{from_round}
use Rattle.offers.proofs.Present as present
use Rattle.offers.proofs.Supplying as supplying
use Rattle.offers.proofs.Theorems as theorems

pub claimed : (O : Offer) → Regular O → Allocated O → Claimed O
claimed O regular lists =
    record {
      lists = lists;
      at_prices = λ ps prices. record {
        demand_means = demanding.demand_means O regular ps prices;
        demand_below = λ i. demand_below O.bundles (quote O ps) i;
        demand_some = demanding.demand_some O regular ps prices;
        raised-price = demanding.raised-price O regular ps prices;
        keen_means = demanding.keen_means O regular ps prices;
        fits_means = supplying.fits_means O regular ps prices;
        undersupplied_means = supplying.undersupplied_means O regular ps prices;
        supplied_means = supplying.supplied_means O regular ps prices;
        all_keen = λ set all.
            undersupplied_keen (market O) (quote O ps) (the_auction O).economies (member O set) (member O all);
        settled_iff_uce = theorems.settled_iff_uce O regular ps prices;
        lowest-least = theorems.lowest-least O regular ps;
        lowest_minimal = theorems.lowest_minimal O regular ps;
        revenue-greatest = economies.revenue-greatest O regular ps;
        exact_discount = theorems.exact_discount O regular ps;
        reads_present = present.reads_present O regular ps;
      };
      at-round = λ k l. record {
        empty_supplied = theorems.empty_supplied O regular k l;
        fits_always = theorems.fits_always O regular k l;
        own_prices = theorems.own_prices O regular k l;
        price_bound = theorems.price_bound O regular k l;
        absent_zero = theorems.absent_zero O regular k l;
      };
      kept = from_round O regular;
      second = theorems.ascending O regular;
    }
