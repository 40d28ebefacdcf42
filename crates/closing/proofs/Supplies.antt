-- What closes an economy: takings that reach its revenue, and everybody present demands what it holds
-- (`closes_demanded`). The idea: who is not keen demands the empty bundle, so "demanded or empty, and demanded if keen"
-- is "demanded". Prices are settled where the code finds a word for each economy (`settled_found`).
use mathlib.Core.Path.{◌≡◌, refl, sym, ap, ap₂, ◌∙◌}
use mathlib.Core.Bool.{Bool, true, false, not, ◌&&◌, ◌||◌, and_assoc, and_comm, or-true}
use mathlib.Core.List.{List, [], ◌∷◌}
use Prim.Native.Nat.{ℕ, zero, suc, ◌+◌, ◌≤◌}
use native.Mathlib.Omega.{arith}
use native.Mathlib.Decide.{ℕ_discrete}
use lib.Dec.{eqb, leb, eqb-suc-zero}
use lib.ListN.{get_or}
use borrow.Author.Tests.{eqb-true, eq-eqb, ne_eqb, le-leb, lt-leb}
use Rattle.std.specs.List.{find}
use Rattle.std.specs.Option.{is_some}
use Rattle.theory.specs.Lists.{◌∈◌, most}
use Rattle.theory.specs.Tests.{◌⊃◌, every, some}
use Rattle.theory.specs.Markets.{total}
use Rattle.theory.specs.Auction.{closes, supplied}
use Rattle.theory.proofs.Tests.{every_same, every_both, every_means, some_same, some-map, some_means, same_test, itself}
use Rattle.theory.proofs.Tests.{by_test, fails, and_means, leb_means}
use Rattle.theory.proofs.Lists.{most_upper, some-when}
use Rattle.theory.proofs.Loops.{filled_tabulate}
use Rattle.numbers.specs.Numbers.{bit}
use Rattle.owners.specs.Owners.{lacks}
use Rattle.owners.specs.Quick.{present_in}
use Rattle.owners.proofs.Bits.{demand_bit}
use Rattle.offers.specs.Offers.{Offer, market, Bids, price_at, quote, demand_set, is_keen, revenue, economy, lowest}
use Rattle.offers.specs.Claims.{economy_at, Regular}
use Rattle.offers.proofs.Economies.{economy_in}
use Rattle.offers.proofs.Theorems.{settled_economies}
use Rattle.demand.proofs.Demands.{demand_set_is, keen_empty}
use Rattle.lists.specs.Words.{word_of, words_of, Packed, Lent}
use Rattle.lists.proofs.Packed.{held, in_word}
use Rattle.totals.specs.Totals.{word_total, word_in, word_total_in}
use Rattle.totals.proofs.Digits.{bidders-count}
use Rattle.totals.proofs.Listed.{bidder_small, total_word, greatest_found}
use Rattle.closing.specs.Supplies.{demand_at, demand_sets, present_served, economy_closes, word_supplied}

-- what brings the most or more brings the most
least-reached : (T t : ℕ) → t ≤ T → leb T t ≡ eqb t T
least-reached T t h =
    elim (ℕ_discrete t T) [
      | yes e ↦ le-leb T t (omega arith) ∙ sym (eq-eqb t T e)
      | no n ↦ lt-leb T t (omega arith) ∙ sym (ne_eqb t T n)
    ]

-- some allocations of an economy
economy-some : (O : Offer) (u : List ℕ → Bool) (e : ℕ) →
    some (λ a. (eqb e 0 || lacks e a) && u a) O.lists ≡ some u (economy O e)
economy-some O u zero = refl
economy-some O u (suc e) =
    ap (λ t. some (λ a. (t || lacks (suc e) a) && u a) O.lists) (eqb-suc-zero e)
    ∙ some-when u (lacks (suc e)) O.lists

demanded_anyway : (empty wanted keen present : Bool) → (empty ≡ true → keen ≡ not wanted) →
    (present ≡ false → empty ≡ true) →
    ((empty || wanted) && ((present && keen) ⊃ wanted)) ≡ (present ⊃ wanted)
demanded_anyway true true keen true h a = or-true (not keen)
demanded_anyway false true keen true h a = or-true (not keen)
demanded_anyway true false keen true h a = rw (h refl) refl
demanded_anyway false false keen true h a = refl
demanded_anyway empty wanted keen false h a = rw (a refl) refl

module _ (O : Offer) (regular : Regular O) (ps : List ℕ) (e : ℕ) (in_range : e ≤ O.buyers) where
  abbrev served : List ℕ → Bool
  served a = every (market O).many O.low (λ i. present_in e i ⊃ (quote O ps).wants i ((market O).holds a i))

  abbrev reaches : List ℕ → Bool
  reaches a = eqb (total (market O) (price_at O ps) a) (revenue O ps e)

  demanded : (a : List ℕ) → a ∈ economy O e → (i : ℕ) → Bids O i → let s = (market O).holds a i in
      ((eqb s 0 || (quote O ps).wants i s) && ((present_in e i && is_keen O ps i) ⊃ (quote O ps).wants i s))
      ≡ (present_in e i ⊃ (quote O ps).wants i s)
  demanded a m i r =
      let s = (market O).holds a i in
      demanded_anyway (eqb s 0) ((quote O ps).wants i s) (is_keen O ps i) (present_in e i)
      (λ z. keen_empty O i r ps regular ∙ ap (λ s. not ((quote O ps).wants i s)) (sym (eqb-true s 0 z)))
      (λ away.
      eq-eqb s 0 ((regular.setting.ready.sound (economy_at O e) (economy_in O e in_range)).absent a m i r away))

  -- it closes the economy
  pub closes_demanded : (a : List ℕ) → a ∈ economy O e →
      closes (market O) (quote O ps) (λ i. present_in e i && is_keen O ps i) (economy O e) a ≡ (reaches a && served a)
  closes_demanded a m =
      and_assoc (reaches a) _ _
      ∙ ap (λ x. reaches a && x)
      (every_both (market O).many O.low _ _
      ∙ every_same (market O).many O.low _ _ (demanded a m))

  -- by a word: `sets` are the demand sets, and T is the revenue
  module _ (packed : Packed O) (sets : List ℕ) (answers : (i : ℕ) → Bids O i →
      get_or sets i 0 ≡ demand_set O ps i) (T : ℕ)
      (is : T ≡ revenue O ps e) where
    abbrev passes : ℕ → Bool
    passes = economy_closes O.low O.buyers sets ps e T

    pub word_passes : (a : List ℕ) → a ∈ O.lists →
        passes (word_of O.share a)
        ≡ ((eqb e 0 || lacks e a) && (served a && leb T (total (market O) (price_at O ps) a)))
    word_passes a m =
        ap₂ ◌&&◌ (in_word O packed a m e (omega (arith, packed.few)))
        (ap₂ ◌&&◌
        (every_same (market O).many O.low _ _
        (λ i r.
        ap (λ t. present_in e i ⊃ t)
        (ap₂ bit (held O packed a m i (bidder_small O packed i r)) (answers i r)
        ∙ demand_bit O.bundles (quote O ps) i ((market O).holds a i) (regular.setting.bundled a m i r))))
        (ap (leb T) (total_word O packed a m ps)))

    -- nothing brings more than the revenue
    pub brought : (a : List ℕ) → a ∈ economy O e →
        (served a && leb T (total (market O) (price_at O ps) a))
        ≡ closes (market O) (quote O ps) (λ i. present_in e i && is_keen O ps i) (economy O e) a
    brought a m =
        let t = total (market O) (price_at O ps) a in
        let most_of : t ≤ revenue O ps e = most_upper (total (market O) (price_at O ps)) m in
        and_comm (served a) (leb T t)
        ∙ ap (λ x. x && served a) (ap (λ T. leb T t) is ∙ least-reached (revenue O ps e) t most_of)
        ∙ sym (closes_demanded a m)

    -- some word closes the economy exactly if it supplies its keen bidders
    pub supplied_found : some passes (words_of O) ≡ supplied (market O) (quote O ps) (is_keen O ps) (economy_at O e)
    supplied_found =
        some-map passes (word_of O.share) O.lists
        ∙ some_same _ _ O.lists word_passes
        ∙ economy-some O (λ a. served a && leb T (total (market O) (price_at O ps) a)) e
        ∙ some_same _ _ (economy O e) brought

-- the demand sets that the code finds
pub sets_found : (O : Offer) (ps : List ℕ) → Packed O → (i : ℕ) → Bids O i →
    get_or (demand_sets O.low O.buyers O.bundles O.worths ps) i 0 ≡ demand_set O ps i
unfolding demand_sets
sets_found O ps packed i r =
    let small = bidder_small O packed i r in
    let last : i ≤ O.buyers = omega (arith, r.1, bidders-count O.low O.buyers packed.first) in
    (filled_tabulate (demand_at O.low O.buyers O.bundles O.worths ps) 7).done i (omega arith)
    ∙ rw (le-leb O.low i r.0, le-leb i O.buyers last) (demand_set_is O i r ps)

-- the code finds prices settled, economy by economy
pub settled_found : (O : Offer) (l ws ps : List ℕ) (low m all : ℕ) → Lent O l ws low m all → (sets : List ℕ) →
    sets ≡ demand_sets low m all ws ps →
    every (m + 1) 0 (word_supplied low m sets ps l) ≡ eqb (lowest O ps) 0
settled_found O l ws ps low m all lent sets answers =
    let regular = lent.regular in
    let packed = lent.packed in
    let S : ℕ → Bool = λ e. supplied (market O) (quote O ps) (is_keen O ps) (economy_at O e) in
    let D = demand_sets O.low O.buyers O.bundles O.worths ps in
    let one : (e : ℕ) → e ≤ O.buyers → word_supplied O.low O.buyers D ps (words_of O) e ≡ S e =
    λ e h. supplied_found O regular ps e h packed D (sets_found O ps packed)
    (most (word_total_in O.low O.buyers ps e) (words_of O))
    (greatest_found O packed (words_of O) refl ps e (omega (arith, packed.few)) _ refl) in
    let (to, from) = settled_economies O regular ps in
    let whole : every (O.buyers + 1) 0 S ≡ eqb (lowest O ps) 0 =
    same_test (every (O.buyers + 1) 0 S) (eqb (lowest O ps) 0)
    (λ t. eq-eqb (lowest O ps) 0
    (from (λ e h. (every_means (O.buyers + 1) 0 (λ e r. itself (S e))).0 t e (omega arith))))
    (λ t. (every_means (O.buyers + 1) 0 (λ e r. itself (S e))).1
    (λ e r. to (eqb-true (lowest O ps) 0 t) e (omega arith))) in
    rw (answers, lent.low, lent.buyers, lent.bundles, lent.worths, lent.words)
    (every_same (O.buyers + 1) 0 _ _ (λ e r. one e (omega arith)) ∙ whole)

-- a word that brings more brings less
pub none_closes : (low m : ℕ) (sets ps : List ℕ) (e T : ℕ) (l : List ℕ) →
    some (economy_closes low m sets ps e 0) l ≡ false → some (economy_closes low m sets ps e T) l ≡ false
none_closes low m sets ps e T l none =
    by_test (some (economy_closes low m sets ps e T) l)
    (λ t.
    let (w, there, passed) = (some_means l (λ w _. itself (economy_closes low m sets ps e T w))).0 t in
    let (inside, rest) =
    (and_means (itself (word_in e w))
    (and_means (itself (present_served low m sets e w)) (leb_means T (word_total low m ps w)))).0 passed in
    fails ((some_means l (λ w _. itself (economy_closes low m sets ps e 0 w))).1 (
      w,
      there,
      (and_means (itself (word_in e w))
          (and_means (itself (present_served low m sets e w)) (leb_means 0 (word_total low m ps w)))).1
          (inside, (rest.0, omega arith)),
    )) none)
    (λ t. t)

-- a search for a word finds one exactly if some word passes
pub some_found : (t : ℕ → Bool) (l : List ℕ) → is_some (find t l) ≡ some t l
some_found t [] = refl
some_found t (w ∷ l) = by_test (t w) (λ e. rw e refl) (λ e. rw e (some_found t l))
