-- Rounds, closing and direct way (sections 4 and 5 of the rules) of an offer: the sets of a sale's rounds, its prices
-- before each round and at the end, the owners, discounts and payments; and the direct way's owners and payments, by
-- totals of worths.
use Rattle.std.specs.Prelude.{Bool, List, [], ℕ, ◌+◌, ◌-◌, eqb, take}
use Rattle.theory.specs.Lists.{most, first}
use Rattle.theory.specs.Rounds.{after}
use Rattle.theory.specs.Markets.{sum_of, total, discount, price_pay}
use Rattle.theory.specs.Auction.{closes}
use Rattle.owners.specs.Prices.{zeros}
use Rattle.owners.specs.Sales as sales
use Rattle.offers.specs.Offers.{Offer, market, layout, worth_of, price_at, without, economy, judged_in, the_auction}
use Rattle.offers.specs.Offers.{quote, is_keen}

module _ (O : Offer) where
  -- rule 4.11: the prices after a round of the set
  unfoldable pub raised : ℕ → List ℕ → List ℕ
  raised set ps = sales.step (the_auction O) (layout O) O.bundles (worth_of O) set ps

  -- rule 3.9: question 9's sum, the worths of all lots
  abbrev pub round_limit : ℕ
  round_limit = sum_of (market O) (λ i. worth_of O i (O.bundles - 1))

  -- rule 1.6: zeros
  unfoldable pub start_prices : List ℕ
  start_prices = zeros (layout O)

  -- rules 4.10 and 4.13: judged in the economies 0 to k, from the prices ps on, the sets of at most f rounds, until
  -- none is undersupplied; and the prices after them
  unfoldable pub sets_from : ℕ → List ℕ → ℕ → List ℕ
  sets_from k ps f = sales.sets (judged_in O k) (layout O) O.bundles (worth_of O) ps f

  unfoldable pub prices_from : ℕ → List ℕ → ℕ → List ℕ
  prices_from k ps f = sales.last_prices (judged_in O k) (layout O) O.bundles (worth_of O) ps f

  -- the sets of a sale's rounds. Question 9's sum bounds how many are looked for; that no more would come is `last_uce`
  -- of demand 2.
  unfoldable pub sale_sets : List ℕ
  sale_sets = sets_from O.buyers start_prices round_limit

  -- the prices after the first k rounds, and after all
  unfoldable pub prices_after : ℕ → List ℕ
  prices_after k = after raised start_prices (take k sale_sets)

  unfoldable pub last_prices : List ℕ
  last_prices = prices_from O.buyers start_prices round_limit

  module _ (ps : List ℕ) where
    -- rule 5.1: whether an allocation fits among all bidders and gives every keen one a demanded bundle; and the first
    -- that does, no owners where there is none
    abbrev pub closes_sale : List ℕ → Bool
    closes_sale a = closes (market O) (quote O ps) (is_keen O ps) O.lists a

    unfoldable pub owners_by : List ℕ
    owners_by = first closes_sale [] O.lists

    -- rule 5.2: the difference of the revenues of all and without i
    unfoldable pub discount_for : ℕ → ℕ
    discount_for i = discount (market O) (price_at O ps) O.lists (without O i)

    -- rule 5.3: the price of what i gets, less the discount (theorem 1)
    unfoldable pub payment_for : ℕ → ℕ
    payment_for i = price_pay (market O) (price_at O ps) i O.lists (without O i) owners_by

  -- an allocation's total (rule 5.7), and the greatest of an economy: of all for 0, or without a buyer (rule 5.8)
  abbrev pub total_of : List ℕ → ℕ
  total_of a = total (market O) (worth_of O) a

  abbrev pub greatest_without : ℕ → ℕ
  greatest_without e = most total_of (economy O e)

  -- rule 5.9: the first list of greatest total (VCG)
  unfoldable pub direct_owners : List ℕ
  direct_owners = first (λ a. eqb (total_of a) (greatest_without 0)) [] O.lists

  -- rule 5.10: what buyer i pays. Nothing is cut off: demand 3 has the payment as an equation.
  unfoldable pub direct_payment : ℕ → ℕ
  direct_payment i = greatest_without i + worth_of O i ((market O).holds direct_owners i) - greatest_without 0
