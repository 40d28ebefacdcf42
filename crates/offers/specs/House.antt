-- Sales with a house, which bids its reserves as bidder 0 (`HouseSales`): that every bidder has a row, and worked
-- sales, with question 9's sum, the rounds, the last prices, owners, discounts, payments, and what the direct way
-- answers.
use Rattle.std.specs.Prelude.{◌≡◌, List, [], ◌∷◌, ◌++◌, ℕ, ◌-◌, ◌^◌, ◌≤◌, length, replicate}
use Rattle.theory.specs.Lists.{tabulate}
use Rattle.owners.specs.Owners.{allocations, zero_first, single}
use Rattle.owners.specs.Prices.{LaidOut, bidders, layout}
use Rattle.offers.specs.Offers.{Offer}
use Rattle.offers.specs.Rounds.{round_limit, sale_sets, last_prices, owners_by, discount_for, payment_for}
use Rattle.offers.specs.Rounds.{direct_owners, direct_payment}

-- a table of rows of sixteen, given from bundle 1 on; and one of seven rows, the buyers' and the house's
abbrev pub sixteen : List (List ℕ) → List ℕ
sixteen [] = []
sixteen (l ∷ ls) = (0 ∷ (l ++ replicate (15 - length l) 0)) ++ sixteen ls

abbrev pub seven_rows : List (List ℕ) → List ℕ → List ℕ
seven_rows buyers house = sixteen (buyers ++ (replicate (6 - length buyers) [] ++ (house ∷ [])))

-- n lots among buyers and the house; `os` are the owners that a lot can have, in order
abbrev pub with_house : ℕ → List ℕ → List (List ℕ) → List ℕ → Offer
with_house n os worths reserves =
    record {
      buyers = length worths;
      low = 0;
      lots = n;
      bundles = 2 ^ n;
      share = single;
      lists = allocations os n;
      worths = seven_rows worths reserves;
    }

-- an offer and its sale: question 9's sum, the sets of the rounds, the last prices, the owners, and each buyer's
-- discount and payment
pub record Row : Type 0 where
  pub offer : Offer
  pub limit : ℕ
  pub sets : List ℕ
  pub prices : List ℕ
  pub owners : List ℕ
  pub discounts : List ℕ
  pub payments : List ℕ

-- the definitions give the row, and the direct way names the same owners and payments
pub record Worked (r : Row) : Type 0 where
  pub limited : round_limit r.offer ≡ r.limit
  pub rounds : sale_sets r.offer ≡ r.sets
  pub last : last_prices r.offer ≡ r.prices
  pub owned : owners_by r.offer (last_prices r.offer) ≡ r.owners
  pub discounted : tabulate r.offer.buyers 1 (discount_for r.offer (last_prices r.offer)) ≡ r.discounts
  pub paid : tabulate r.offer.buyers 1 (payment_for r.offer (last_prices r.offer)) ≡ r.payments
  pub direct_owned : direct_owners r.offer ≡ r.owners
  pub direct_paid : tabulate r.offer.buyers 1 (direct_payment r.offer) ≡ r.payments

-- one lot, worths of 5 and 3, a reserve of 4
abbrev pub sold_above : Row
sold_above =
    record {
      offer = with_house 1 (zero_first 2) ((5 ∷ []) ∷ (3 ∷ []) ∷ []) (4 ∷ []);
      limit = 12;
      sets = 3 ∷ 3 ∷ 3 ∷ 64 ∷ 64 ∷ 64 ∷ 65 ∷ [];
      prices = seven_rows ((4 ∷ []) ∷ (3 ∷ []) ∷ []) (4 ∷ []);
      owners = 1 ∷ [];
      discounts = 0 ∷ 0 ∷ [];
      payments = 4 ∷ 0 ∷ [];
    }

-- a reserve of 5: where 0 is the first of the owners, the house keeps the lot
abbrev pub kept_at : Row
kept_at =
    record {
      offer = with_house 1 (zero_first 2) ((5 ∷ []) ∷ (3 ∷ []) ∷ []) (5 ∷ []);
      limit = 13;
      sets = 3 ∷ 3 ∷ 3 ∷ 64 ∷ 64 ∷ 64 ∷ 65 ∷ 65 ∷ [];
      prices = seven_rows ((5 ∷ []) ∷ (3 ∷ []) ∷ []) (5 ∷ []);
      owners = 0 ∷ [];
      discounts = 0 ∷ 0 ∷ [];
      payments = 0 ∷ 0 ∷ [];
    }

-- where it is the last, buyer 1 has it
abbrev pub sold_at : Row
sold_at =
    record {
      offer = with_house 1 (1 ∷ 2 ∷ 0 ∷ []) ((5 ∷ []) ∷ (3 ∷ []) ∷ []) (5 ∷ []);
      limit = 13;
      sets = 3 ∷ 3 ∷ 3 ∷ 64 ∷ 64 ∷ 64 ∷ 65 ∷ 65 ∷ [];
      prices = seven_rows ((5 ∷ []) ∷ (3 ∷ []) ∷ []) (5 ∷ []);
      owners = 1 ∷ [];
      discounts = 0 ∷ 0 ∷ [];
      payments = 5 ∷ 0 ∷ [];
    }

-- a reserve of 6: the same rounds
abbrev pub kept_above : Row
kept_above =
    record {
      offer = with_house 1 (zero_first 2) ((5 ∷ []) ∷ (3 ∷ []) ∷ []) (6 ∷ []);
      limit = 14;
      sets = 3 ∷ 3 ∷ 3 ∷ 64 ∷ 64 ∷ 64 ∷ 65 ∷ 65 ∷ [];
      prices = seven_rows ((5 ∷ []) ∷ (3 ∷ []) ∷ []) (5 ∷ []);
      owners = 0 ∷ [];
      discounts = 0 ∷ 0 ∷ [];
      payments = 0 ∷ 0 ∷ [];
    }

-- a lone buyer pays the reserve
abbrev pub lone_buyer : Row
lone_buyer =
    record {
      offer = with_house 1 (zero_first 1) ((5 ∷ []) ∷ []) (3 ∷ []);
      limit = 8;
      sets = 65 ∷ 65 ∷ 65 ∷ [];
      prices = seven_rows ((3 ∷ []) ∷ []) (3 ∷ []);
      owners = 1 ∷ [];
      discounts = 0 ∷ [];
      payments = 3 ∷ [];
    }

-- two lots, reserves of 1 and 2: one is sold, with a discount, and one kept; there are more rounds than the buyers'
-- worths come to, and some raise the house only because the economy without buyer 1 does not supply it
abbrev pub two_lots : Row
two_lots =
    record {
      offer = with_house 2 (zero_first 2) ((2 ∷ 0 ∷ 2 ∷ []) ∷ (0 ∷ 0 ∷ 3 ∷ []) ∷ []) (1 ∷ 2 ∷ 3 ∷ []);
      limit = 8;
      sets = 3 ∷ 3 ∷ 64 ∷ 64 ∷ 2 ∷ 64 ∷ [];
      prices = seven_rows ((2 ∷ 0 ∷ 2 ∷ []) ∷ (0 ∷ 0 ∷ 3 ∷ []) ∷ []) (1 ∷ 2 ∷ 3 ∷ []);
      owners = 1 ∷ 0 ∷ [];
      discounts = 1 ∷ 0 ∷ [];
      payments = 1 ∷ 0 ∷ [];
    }

pub record HouseSales : Type 0 where
  -- each bidder has a row and a bit of its own, the house the last of seven
  pub laid_out : (m : ℕ) → m ≤ 6 → LaidOut (layout 0 m) (bidders 0 m) 0 7
  pub sold_above_lem : Worked sold_above
  pub kept_at_lem : Worked kept_at
  pub sold-at : Worked sold_at
  pub kept_above_lem : Worked kept_above
  pub lone_buyer_lem : Worked lone_buyer
  pub two_lots_lem : Worked two_lots
