-- The word that closes the economy of all bidders, the revenues and the charges that the code finds make up the closing
-- (`closing_is`).
use mathlib.Core.Path.{◌≡◌, refl, ap, ap₂, ◌∙◌}
use mathlib.Core.List.{List}
use Prim.Native.Nat.{ℕ, suc, ◌-◌, ◌≤◌, ◌<◌}
use native.Mathlib.Omega.{arith}
use lib.ListN.{get_or}
use Rattle.theory.specs.Lists.{◌∈◌, most, first}
use Rattle.theory.specs.Markets.{total}
use Rattle.theory.proofs.Lists.{most_subset}
use Rattle.owners.specs.Prices.{entry}
use Rattle.offers.specs.Offers.{Offer, market, price_at, revenue}
use Rattle.offers.specs.Rounds.{closes_sale, owners_by, discount_for, payment_for}
use Rattle.offers.specs.Places.{four, per_buyer}
use Rattle.offers.proofs.Economies.{economy_fewer}
use Rattle.offers.proofs.Places.{per_buyer_same}
use Rattle.demand.proofs.Demands.{entry_is}
use Rattle.lists.specs.Words.{digit, owners_of, word_of, Packed, Lent}
use Rattle.totals.specs.Totals.{word_total_in, word_payment}
use Rattle.totals.proofs.Listed.{buyer_bids, greatest_found, owners_found, bundle_found}
use Rattle.closing.specs.declared.Closing.{Closing}
use Rattle.closing.specs.Closings.{sale_closing, discount_by}
use Rattle.closing.specs.Supplies.{demand_sets, economy_closes}
use Rattle.closing.proofs.Supplies.{word_passes, brought, sets_found}

-- the words of an offer; `revenues` by them, and w the first that closes the sale
module _ (O : Offer) (l ws ps : List ℕ) (low m all : ℕ) (lent : Lent O l ws low m all) (revenues : List ℕ)
    (reached : (e : ℕ) → e ≤ m → get_or revenues e 0 ≡ most (word_total_in low m ps e) l) (w : ℕ)
    (found : w ≡ first (economy_closes low m (demand_sets low m all ws ps) ps 0 (get_or revenues 0 0)) 0 l) where
  abbrev packed : Packed O
  packed = lent.packed

  revenue_is : (e : ℕ) → e ≤ O.buyers → get_or revenues e 0 ≡ revenue O ps e
  revenue_is e h =
      greatest_found O packed l lent.words ps e (omega (arith, packed.few)) (get_or revenues e 0)
      (rw (lent.low, lent.buyers) at (reached e (omega (arith, lent.buyers))))

  abbrev sets : List ℕ
  sets = demand_sets O.low O.buyers O.bundles O.worths ps

  word_first : w ≡ first (economy_closes O.low O.buyers sets ps 0 (get_or revenues 0 0)) 0 l
  word_first = rw (lent.low, lent.buyers, lent.bundles, lent.worths) at found

  abbrev same : (a : List ℕ) → a ∈ O.lists →
      economy_closes O.low O.buyers sets ps 0 (get_or revenues 0 0) (word_of O.share a) ≡ closes_sale O ps a
  same a h =
      word_passes O lent.regular ps 0 (omega arith) packed sets (sets_found O ps packed) (get_or revenues 0 0)
      (revenue_is 0 (omega arith)) a h
      ∙ brought O lent.regular ps 0 (omega arith) packed sets (sets_found O ps packed) (get_or revenues 0 0)
      (revenue_is 0 (omega arith)) a h

  owners_are : owners_of w ≡ four (owners_by O ps)
  unfolding owners_by
  owners_are = owners_found O packed l lent.words _ (closes_sale O ps) same w word_first

  bundle_is : (i : ℕ) → i ≤ 6 → digit i w ≡ (market O).holds (owners_by O ps) i
  unfolding owners_by
  bundle_is = bundle_found O packed l lent.words _ (closes_sale O ps) same w word_first

  discount_is : (k : ℕ) → k < O.buyers → discount_by revenues (suc k) ≡ discount_for O ps (suc k)
  unfolding discount_for
  discount_is k h = ap₂ ◌-◌ (revenue_is 0 (omega arith)) (revenue_is (suc k) (omega arith))

  payment_is : (k : ℕ) → k < O.buyers → word_payment revenues ps w (suc k) ≡ payment_for O ps (suc k)
  unfolding payment_for
  payment_is k h =
      let i = suc k in
      let r = buyer_bids O packed i (omega arith) in
      let own : entry ps i (digit i w) ≡ price_at O ps i ((market O).holds (owners_by O ps) i) =
      ap (entry ps i) (bundle_is i (omega (arith, packed.few)))
      ∙ entry_is O i r ps ((market O).holds (owners_by O ps) i) in
      let fewer : revenue O ps i ≤ revenue O ps 0 =
      most_subset (total (market O) (price_at O ps)) (economy_fewer O i) in
      omega (arith, own, fewer, revenue_is 0 (omega arith), revenue_is i (omega arith))

  pub closing_is : (owners discounts payments : List ℕ) → owners ≡ owners_of w →
      discounts ≡ per_buyer m (discount_by revenues) → payments ≡ per_buyer m (word_payment revenues ps w) →
      ◌≡◌ {A = Closing} (record { owners = owners; discounts = discounts; payments = payments }) (sale_closing O ps)
  closing_is owners discounts payments eo ed ep =
      let few = packed.few in
      let os = eo ∙ owners_are in
      let ds = ed ∙ ap (λ m. per_buyer m (discount_by revenues)) lent.buyers
      ∙ per_buyer_same O.buyers (discount_by revenues) (discount_for O ps) few discount_is in
      let due = ep ∙ ap (λ m. per_buyer m (word_payment revenues ps w)) lent.buyers
      ∙ per_buyer_same O.buyers (word_payment revenues ps w) (payment_for O ps) few payment_is in
      rw (os, ds, due) refl
