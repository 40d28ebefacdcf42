-- What stands in a word is what stands in the allocation, so that loops over the words of an offer find what the
-- definitions say of its allocations: the greatest total of an economy (`greatest_found`), the first list that passes
-- (`first_found`, `owners_found`, `bundle_found`), the values of sets (`value_found`), and question 9's sum
-- (`limit_found`).
use mathlib.Core.Path.{◌≡◌, refl, ap, ap₂, ◌∙◌}
use mathlib.Core.Bool.{Bool, not, ◌||◌}
use mathlib.Core.List.{List, [], ◌∷◌}
use Prim.Native.Nat.{ℕ, zero, suc, ◌-◌, ◌≤◌}
use native.Mathlib.Omega.{arith}
use lib.Dec.{eqb, eqb-suc-zero}
use borrow.Author.Tests.{eqb-true, eqb-false}
use Rattle.std.specs.List.{find}
use Rattle.std.specs.Option.{unwrap_or}
use Rattle.theory.specs.Sums.{when, Among}
use Rattle.theory.specs.Lists.{◌∈◌, most, first}
use Rattle.theory.specs.Markets.{total}
use Rattle.theory.specs.Coalitions.{holder}
use Rattle.theory.proofs.Sums.{sum_same}
use Rattle.theory.proofs.Tests.{by_test}
use Rattle.theory.proofs.Lists.{first_such, most-when}
use Rattle.owners.specs.Owners.{bundle_from, lacks, number}
use Rattle.owners.specs.Prices.{entry}
use Rattle.owners.proofs.Bits.{number_same}
use Rattle.offers.specs.Offers.{Offer, market, Bids, price_at, economy, revenue}
use Rattle.offers.specs.Rounds.{round_limit}
use Rattle.offers.specs.Places.{four}
use Rattle.demand.proofs.Demands.{entry_is}
use Rattle.lists.specs.Words.{digit, owners_of, word_of, words_of, Packed}
use Rattle.lists.proofs.Words.{none_packs, word_bundle}
use Rattle.lists.proofs.Loops.{most-words, first-words, first_owners}
use Rattle.lists.proofs.Packed.{held, in_word}
use Rattle.totals.specs.Totals.{word_total, word_total_in, word_holders, word_total_by, limit_by}

economy-most : (O : Offer) (f : List ℕ → ℕ) (e : ℕ) →
    most (λ a. when (eqb e 0 || lacks e a) (f a)) O.lists ≡ most f (economy O e)
economy-most O f zero = refl
economy-most O f (suc e) =
    ap (λ t. most (λ a. when (t || lacks (suc e) a) (f a)) O.lists) (eqb-suc-zero e)
    ∙ most-when f (lacks (suc e)) O.lists

module _ (O : Offer) (packed : Packed O) where
  -- a buyer is a bidder
  pub buyer_bids : (i : ℕ) → Among O.buyers 1 i → Bids O i
  buyer_bids i r =
      by_test (eqb O.low 0) (λ e. rw e (omega (arith, eqb-true O.low 0 e)))
      (λ e. rw e (omega (arith, eqb-false O.low 0 e, packed.first)))

  -- bidders are at most 6
  pub bidder_small : (i : ℕ) → Bids O i → i ≤ 6
  bidder_small i r =
      by_test (eqb O.low 0)
      (λ e. let h = rw e at r.1 in omega (arith, packed.few, eqb-true O.low 0 e, h))
      (λ e. let h = rw e at r.1 in omega (arith, packed.few, packed.first, h))

  -- question 9's sum
  pub limit_found : limit_by O.low O.buyers O.bundles O.worths ≡ round_limit O
  limit_found =
      sum_same (market O).many O.low _ _ (λ i r. entry_is O i r O.worths (O.bundles - 1))

  -- one word
  module _ (a : List ℕ) (m : a ∈ O.lists) where
    pub total_word : (t : List ℕ) →
        word_total O.low O.buyers t (word_of O.share a) ≡ total (market O) (price_at O t) a
    total_word t =
        sum_same (market O).many O.low _ _
        (λ i r. ap (entry t i) (held O packed a m i (bidder_small i r)) ∙ entry_is O i r t ((market O).holds a i))

    total_in_word : (t : List ℕ) (e : ℕ) → e ≤ 6 →
        word_total_in O.low O.buyers t e (word_of O.share a)
        ≡ when (eqb e 0 || lacks e a) (total (market O) (price_at O t) a)
    total_in_word t e h = ap₂ when (in_word O packed a m e h) (total_word t)

    holders_word : word_holders O.buyers (word_of O.share a)
        ≡ number O.buyers 1 (λ i. not (eqb ((market O).holds a i) 0))
    holders_word =
        number_same O.buyers 1 _ _
        (λ i r. ap (λ s. not (eqb s 0)) (held O packed a m i (omega (arith, packed.few))))

  -- l is the list of all words
  module _ (l : List ℕ) (all : l ≡ words_of O) where
    pub greatest_found : (t : List ℕ) (e : ℕ) → e ≤ 6 → (r : ℕ) → r ≡ most (word_total_in O.low O.buyers t e) l →
        r ≡ revenue O t e
    greatest_found t e h r is =
        is ∙ ap (most (word_total_in O.low O.buyers t e)) all
        ∙ most-words O.share O.lists _ (λ a. when (eqb e 0 || lacks e a) (total (market O) (price_at O t) a))
        (λ a q. total_in_word a q t e h)
        ∙ economy-most O (total (market O) (price_at O t)) e

    pub value_found : (t : List ℕ) (n r : ℕ) → r ≡ most (word_total_by O.low O.buyers t n) l →
        r ≡ most (λ a. when (eqb (number O.buyers 1 (holder (market O) a)) n) (total (market O) (price_at O t) a))
        O.lists
    value_found t n r is =
        is ∙ ap (most (word_total_by O.low O.buyers t n)) all
        ∙ most-words O.share O.lists _ _
        (λ a q. ap₂ (λ k x. when (eqb k n) x) (holders_word a q) (total_word a q t))

    -- a word w is the first that passes the test u, which is the test v of its allocation
    module _ (u : ℕ → Bool) (v : List ℕ → Bool) (same : (a : List ℕ) → a ∈ O.lists → u (word_of O.share a) ≡ v a)
        (w : ℕ) (ew : w ≡ first u 0 l) where
      word_is : w ≡ word_of O.share (first v [] O.lists)
      word_is = ew ∙ ap (first u 0) all ∙ first-words O.share O.lists u v same

      pub owners_found : owners_of w ≡ four (first v [] O.lists)
      owners_found =
          ap owners_of (ew ∙ ap (first u 0) all)
          ∙ first_owners O.share O.lists u v same (λ a q. (packed.packs a q, packed.short a q))

      pub bundle_found : (i : ℕ) → i ≤ 6 → digit i w ≡ (market O).holds (first v [] O.lists) i
      bundle_found i h =
          ap (digit i) word_is
          ∙ first_such (λ a. digit i (word_of O.share a) ≡ bundle_from O.share 0 i a) v [] O.lists
          (word_bundle O.share [] (none_packs O.share) i (omega arith)) (λ a q. held O packed a q i h)

-- the first word that passes, by what a search for it answers; 0, the word of no owner, where there is none
pub first_found : (t : ℕ → Bool) (l : List ℕ) → unwrap_or (find t l) 0 ≡ first t 0 l
first_found t [] = refl
first_found t (w ∷ l) = by_test (t w) (λ e. rw e refl) (λ e. rw e (first_found t l))
