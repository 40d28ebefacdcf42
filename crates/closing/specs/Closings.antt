-- The closing of a sale, whole (`sale_closing`), and a discount by the revenues of the economies.
use Rattle.std.specs.Prelude.{List, ℕ, ◌-◌, get_or}
use Rattle.offers.specs.Offers.{Offer}
use Rattle.offers.specs.Rounds.{owners_by, discount_for, payment_for}
use Rattle.offers.specs.Places.{four, per_buyer}
use Rattle.closing.specs.declared.Closing.{Closing}

abbrev pub sale_closing : Offer → List ℕ → Closing
sale_closing O ps =
    record {
      owners = four (owners_by O ps);
      discounts = per_buyer O.buyers (discount_for O ps);
      payments = per_buyer O.buyers (payment_for O ps);
    }

-- buyer i's discount, by the revenues of the economies
abbrev pub discount_by : List ℕ → ℕ → ℕ
discount_by revenues i = get_or revenues 0 0 - get_or revenues i 0
