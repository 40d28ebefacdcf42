-- Bidders have rows with a house too, and the worked sales are as stated (`house_sales`), by computing.
use mathlib.Core.Path.{◌≡◌, refl, ap, ◌∙◌}
use Rattle.theory.specs.Lists.{tabulate}
use Rattle.theory.specs.Rounds.{after}
use Rattle.owners.proofs.Bits.{house_laid_out}
use Rattle.offers.specs.Rounds.{raised, round_limit, start_prices, sets_from, prices_from, sale_sets, last_prices}
use Rattle.offers.specs.Rounds.{owners_by, discount_for, payment_for, direct_owners, direct_payment}
use Rattle.offers.specs.House.{Row, Worked, HouseSales, sold_above, kept_at, sold_at, kept_above, lone_buyer, two_lots}

-- the rounds are computed once, and what comes after at what they give
sold : (r : Row) →
    round_limit r.offer ≡ r.limit →
    sale_sets r.offer ≡ r.sets →
    after (raised r.offer) (start_prices r.offer) r.sets ≡ r.prices →
    owners_by r.offer r.prices ≡ r.owners →
    tabulate r.offer.buyers 1 (discount_for r.offer r.prices) ≡ r.discounts →
    tabulate r.offer.buyers 1 (payment_for r.offer r.prices) ≡ r.payments →
    direct_owners r.offer ≡ r.owners →
    tabulate r.offer.buyers 1 (direct_payment r.offer) ≡ r.payments →
    Worked r
unfolding raised start_prices sets_from prices_from sale_sets last_prices
sold r limited rounds last owned discounted paid direct_owned direct_paid =
    let to = after (raised r.offer) (start_prices r.offer) in
    let is : last_prices r.offer ≡ r.prices = ap to rounds ∙ last in
    record {
      limited = limited;
      rounds = rounds;
      last = is;
      owned = ap (owners_by r.offer) is ∙ owned;
      discounted = ap (λ ps. tabulate r.offer.buyers 1 (discount_for r.offer ps)) is ∙ discounted;
      paid = ap (λ ps. tabulate r.offer.buyers 1 (payment_for r.offer ps)) is ∙ paid;
      direct_owned = direct_owned;
      direct_paid = direct_paid;
    }

pub house_sales : HouseSales
unfolding
    raised start_prices sets_from prices_from sale_sets last_prices owners_by discount_for payment_for direct_owners
    direct_payment
house_sales =
    record {
      laid_out = house_laid_out;
      sold_above_lem = sold sold_above refl refl refl refl refl refl refl refl;
      kept_at_lem = sold kept_at refl refl refl refl refl refl refl refl;
      sold-at = sold sold_at refl refl refl refl refl refl refl refl;
      kept_above_lem = sold kept_above refl refl refl refl refl refl refl refl;
      lone_buyer_lem = sold lone_buyer refl refl refl refl refl refl refl refl;
      two_lots_lem = sold two_lots refl refl refl refl refl refl refl refl;
    }
