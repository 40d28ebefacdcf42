-- The outcome of an offer's sale is the direct way's (`same_owners`, `same_payment`), and nothing is cut off in either
-- (`payment_exact`, `direct_pays`). The direct way's list is an allocation of greatest total (`direct_in`,
-- `direct-total`), the first in order (`direct_ties`); nobody pays more than its worth (`direct_cheap`), or gains by
-- other worths than its true ones (`no_gain`).
use mathlib.Core.Path.{◌≡◌}
use mathlib.Core.Logic.{◌≢◌, ◌⊎◌}
use mathlib.Core.List.{List, []}
use Prim.Native.Nat.{ℕ, zero, suc, ◌+◌, ◌≤◌, ◌<◌}
use native.Mathlib.Omega.{arith}
use Rattle.theory.specs.Sums.{Among}
use Rattle.theory.specs.Lists.{◌∈◌, Ordered}
use Rattle.theory.proofs.Lists.{most_subset}
use Rattle.theory.proofs.Outcome as outcome
use Rattle.theory.proofs.Settled as settled
use Rattle.owners.proofs.Sales.{SameOutcome, same_outcome, no_gain_direct}
use Rattle.offers.specs.Offers.{Offer, market, Bids, layout, bits, worth_of, price_at, without, the_auction}
use Rattle.offers.specs.Rounds.{round_limit, start_prices, prices_from, last_prices, owners_by, discount_for}
use Rattle.offers.specs.Rounds.{payment_for}
use Rattle.offers.specs.Rounds.{total_of, greatest_without, direct_owners, direct_payment}
use Rattle.offers.specs.Claims.{Regular}
use Rattle.offers.proofs.Economies.{economy_fewer}

module _ (O : Offer) (regular : Regular O) where
  pub direct_in : direct_owners O ∈ O.lists
  unfolding direct_owners
  direct_in = settled.direct_in (market O) (worth_of O) (regular.some 0).1 []

  pub direct-total : total_of O (direct_owners O) ≡ greatest_without O 0
  unfolding direct_owners
  direct-total = settled.direct_efficient (market O) (worth_of O) (regular.some 0).1 []

  pub direct_ties : (before : List ℕ → List ℕ → Type 0) → Ordered before O.lists → (a : List ℕ) → a ∈ O.lists →
      total_of O a ≡ greatest_without O 0 → (a ≡ direct_owners O) ⊎ before (direct_owners O) a
  unfolding direct_owners
  direct_ties before order a h e =
      settled.direct-first (market O) (worth_of O) (regular.some 0).1 [] before order h e

  pub direct_pays : (i : ℕ) → Among O.buyers 1 i →
      direct_payment O i + greatest_without O 0
      ≡ greatest_without O i + worth_of O i ((market O).holds (direct_owners O) i)
  unfolding direct_owners direct_payment
  direct_pays zero r = absurd (omega arith)
  direct_pays (suc k) r =
      outcome.direct_pays (the_auction O) O.lists (regular.some 0).1 [] (suc k) _
      (regular.buyer (suc k) r).leaving (worth_of O) regular.worths.proper

  pub direct_cheap : (i : ℕ) → Among O.buyers 1 i →
      direct_payment O i ≤ worth_of O i ((market O).holds (direct_owners O) i)
  direct_cheap i r = omega (arith, direct_pays i r, most_subset (total_of O) (economy_fewer O i))

  -- at the last prices
  third : SameOutcome (the_auction O) (layout O) O.bundles O.lists [] O.buyers (without O) (worth_of O)
      (last_prices O)
  unfolding start_prices prices_from last_prices
  third =
      same_outcome (the_auction O) (layout O) O.bundles (bits O) O.lists regular.setting (worth_of O)
      regular.worths
      (round_limit O) (omega arith) O.buyers (without O) regular.buyer []

  pub same_owners : owners_by O (last_prices O) ≡ direct_owners O
  unfolding owners_by direct_owners
  same_owners = third.allocation

  pub same_payment : (i : ℕ) → Among O.buyers 1 i → payment_for O (last_prices O) i ≡ direct_payment O i
  unfolding owners_by payment_for direct_payment direct_owners
  same_payment zero r = absurd (omega arith)
  same_payment (suc k) r = third.payments (suc k) r

  pub payment_exact : (i : ℕ) → Among O.buyers 1 i →
      payment_for O (last_prices O) i + discount_for O (last_prices O) i
      ≡ price_at O (last_prices O) i ((market O).holds (owners_by O (last_prices O)) i)
  unfolding payment_for discount_for owners_by
  payment_exact i r = (third.exact i r).paid

-- an offer with other worths
abbrev pub reworth : Offer → List ℕ → Offer
reworth O ws =
    record {
      buyers = O.buyers;
      low = O.low;
      lots = O.lots;
      bundles = O.bundles;
      share = O.share;
      lists = O.lists;
      worths = ws;
    }

-- that differ at most in buyer i's; its true ones are the first
pub no_gain : (O : Offer) (ws : List ℕ) → Regular O → Regular (reworth O ws) → (i : ℕ) → Among O.buyers 1 i →
    ((j : ℕ) → Bids O j → j ≢ i → (s : ℕ) → s < O.bundles → worth_of O j s ≡ worth_of (reworth O ws) j s) →
    worth_of O i ((market O).holds (direct_owners (reworth O ws)) i) + direct_payment O i
    ≤ worth_of O i ((market O).holds (direct_owners O) i) + direct_payment (reworth O ws) i
unfolding direct_owners direct_payment
no_gain O ws regular regular' zero r others = absurd (omega arith)
no_gain O ws regular regular' (suc k) r others =
    no_gain_direct (the_auction O) (layout O) O.bundles (bits O) O.lists regular.setting (worth_of O)
    (worth_of (reworth O ws)) regular.worths regular'.worths (suc k) (without O (suc k)) (regular.buyer (suc k) r)
    [] others
