-- By the words of an offer, the greatest totals, the first word of the greatest, and the payments by it are the direct
-- way's answer (`reckoned_is`).
use mathlib.Core.Path.{◌≡◌, refl, ap, ap₂, ◌∙◌}
use mathlib.Core.List.{List}
use Prim.Native.Nat.{ℕ, suc, ◌≤◌, ◌<◌}
use native.Mathlib.Omega.{arith}
use lib.Dec.{eqb}
use lib.ListN.{get_or}
use Rattle.theory.specs.Lists.{most, first}
use Rattle.owners.specs.Prices.{entry}
use Rattle.offers.specs.Offers.{Offer, market, worth_of}
use Rattle.offers.specs.Rounds.{total_of, greatest_without, direct_owners, direct_payment}
use Rattle.offers.specs.Places.{four, per_buyer}
use Rattle.offers.proofs.Places.{per_buyer_same}
use Rattle.demand.proofs.Demands.{entry_is}
use Rattle.lists.specs.Words.{digit, owners_of, Packed, Lent}
use Rattle.totals.specs.Totals.{word_total, word_total_in, word_payment}
use Rattle.totals.proofs.Listed.{buyer_bids, total_word, greatest_found, owners_found, bundle_found}
use Rattle.direct.specs.declared.Direct.{Direct}
use Rattle.direct.specs.Answers.{reckoned}

module _ (O : Offer) (l ws : List ℕ) (low m all : ℕ) (lent : Lent O l ws low m all) (greatest : List ℕ)
    (reached : (e : ℕ) → e ≤ m → get_or greatest e 0 ≡ most (word_total_in low m ws e) l) (w : ℕ)
    (found : w ≡ first (λ w. eqb (word_total low m ws w) (get_or greatest 0 0)) 0 l) where
  abbrev packed : Packed O
  packed = lent.packed

  greatest_is : (e : ℕ) → e ≤ O.buyers → get_or greatest e 0 ≡ greatest_without O e
  greatest_is e h =
      greatest_found O packed l lent.words O.worths e (omega (arith, packed.few)) (get_or greatest e 0)
      (rw (lent.low, lent.buyers, lent.worths) at (reached e (omega (arith, lent.buyers))))

  -- the first of total T
  module _ (T : ℕ) (e : T ≡ greatest_without O 0)
      (is : w ≡ first (λ w. eqb (word_total O.low O.buyers O.worths w) T) 0 l) where
    owners_are : owners_of w ≡ four (direct_owners O)
    unfolding direct_owners
    owners_are =
        owners_found O packed l lent.words _ (λ a. eqb (total_of O a) (greatest_without O 0))
        (λ a q. ap₂ eqb (total_word O packed a q O.worths) e) w is

    bundle_is : (i : ℕ) → i ≤ 6 → digit i w ≡ (market O).holds (direct_owners O) i
    unfolding direct_owners
    bundle_is =
        bundle_found O packed l lent.words _ (λ a. eqb (total_of O a) (greatest_without O 0))
        (λ a q. ap₂ eqb (total_word O packed a q O.worths) e) w is

  first_is : w ≡ first (λ w. eqb (word_total O.low O.buyers O.worths w) (get_or greatest 0 0)) 0 l
  first_is = rw (lent.low, lent.buyers, lent.worths) at found

  payment_is : (k : ℕ) → k < O.buyers → word_payment greatest ws w (suc k) ≡ direct_payment O (suc k)
  unfolding direct_payment
  payment_is k h =
      let i = suc k in
      let r = buyer_bids O packed i (omega arith) in
      let own : entry ws i (digit i w) ≡ worth_of O i ((market O).holds (direct_owners O) i) =
      ap₂ (λ t s. entry t i s) lent.worths
      (bundle_is (get_or greatest 0 0) (greatest_is 0 (omega arith)) first_is i (omega (arith, packed.few)))
      ∙ entry_is O i r O.worths ((market O).holds (direct_owners O) i) in
      omega (arith, own, greatest_is 0 (omega arith), greatest_is i (omega arith))

  pub reckoned_is : (owners payments : List ℕ) → owners ≡ owners_of w → payments
      ≡ per_buyer m (word_payment greatest ws w) →
      ◌≡◌ {A = Direct}
      (record { number = 0; place = 0; total = get_or greatest 0 0; owners = owners; payments = payments }) (reckoned O)
  unfolding reckoned
  reckoned_is owners payments eo ep =
      let os = eo ∙ owners_are (get_or greatest 0 0) (greatest_is 0 (omega arith)) first_is in
      let due = ep ∙ ap (λ m. per_buyer m (word_payment greatest ws w)) lent.buyers
      ∙ per_buyer_same O.buyers (word_payment greatest ws w) (direct_payment O) packed.few payment_is in
      rw (os, due, greatest_is 0 (omega arith)) refl
