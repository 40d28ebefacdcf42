-- Theorems at any prices of an offer, and of its sale: demand 2 (`ascending`).
use mathlib.Core.Path.{◌≡◌, refl, sym, ap, subst, ◌∙◌}
use mathlib.Core.Logic.{◌↔◌}
use mathlib.Core.Bool.{true, false}
use mathlib.Core.List.{List, [], ◌∷◌}
use Prim.Native.Nat.{ℕ, zero, suc, ◌+◌, ◌-◌, ◌*◌, ◌/◌, ◌^◌, ◌≤◌, ◌<◌}
use native.Mathlib.Nat.{zero-div}
use native.Mathlib.Omega.{arith}
use native.Mathlib.Decide.{dec_lt}
use lib.Dec.{eqb}
use lib.ListN.{length, take, get_or, get_or-replicate, length-replicate, get_or-eq_default}
use borrow.Author.Tests.{ne_eqb}
use lib.Seq.{take-length}
use Rattle.theory.specs.Sums.{Among}
use Rattle.theory.specs.Lists.{◌∈◌}
use Rattle.theory.specs.Rounds.{after}
use Rattle.theory.specs.Auction.{Economy, Minimal, supplied, fits as fits_of, Auction, whole, start, last}
use Rattle.theory.specs.Universal.{Competitive, Universal, Answers, Bundled}
use Rattle.theory.proofs.Sums.{sum_same}
use Rattle.theory.proofs.Tests.{by_test, fails, itself, and_means, leb_means, least_none}
use Rattle.theory.proofs.Rounds.{after_one}
use Rattle.theory.proofs.Payments.{discount_exact}
use Rattle.theory.proofs.Auction.{supplied_means, undersupplied_means, undersupplied_keen, settled_iff}
use Rattle.theory.proofs.Auction.{lowest-least as least_of, lowest_minimal as minimal_of}
use Rattle.theory.proofs.Universal.{closing_competitive}
use Rattle.owners.specs.Prices.{Layout, zeros, read}
use Rattle.owners.specs.Sales.{limit}
use Rattle.owners.proofs.Prices.{small_fair, raised_long, quote_answers, best_is}
use Rattle.owners.proofs.Economies.{economies_all, whole_in}
use Rattle.owners.proofs.Sales.{SaleRounds, priced, begins, settled_is, prices_kept, ends_fair, sale_rounds}
use Rattle.numbers.proofs.Numbers.{pow_some}
use Rattle.offers.specs.Offers.{Offer, market, Bids, layout, member, bits, worth_of, price_at, the_auction, economy}
use Rattle.offers.specs.Offers.{best, quote, is_keen, revenue, fits, undersupplied, lowest}
use Rattle.offers.specs.Rounds.{raised, round_limit, start_prices, sets_from, prices_from, sale_sets, prices_after}
use Rattle.offers.specs.Rounds.{last_prices, owners_by, discount_for}
use Rattle.offers.specs.Claims.{Prices, Supports, UCE, economy_at, set_at, Ascending, Regular}
use Rattle.offers.proofs.Economies.{Numbers, economy-number, number-economy, economy_in, economy_fewer}
use Rattle.offers.proofs.Economies.{but_one_holds}

-- prices are as many in every round
after_long : (O : Offer) (l ps : List ℕ) → length ps ≡ 16 * (layout O).rows →
    length (after (raised O) ps l) ≡ 16 * (layout O).rows
unfolding raised
after_long O [] ps e = e
after_long O (x ∷ l) ps e =
    after_long O l (raised O x ps) (raised_long (layout O) O.bundles (worth_of O) (member O x) ps)

prices_long : (O : Offer) (k : ℕ) → length (prices_after O k) ≡ 16 * (layout O).rows
unfolding prices_after start_prices
prices_long O k =
    after_long O (take k (sale_sets O)) (start_prices O) (length-replicate {A = ℕ} (16 * (layout O).rows) 0)

pub last_long : (O : Offer) (k : ℕ) (ps : List ℕ) (f : ℕ) → length ps ≡ 16 * (layout O).rows →
    length (prices_from O k ps f) ≡ 16 * (layout O).rows
unfolding raised sets_from prices_from
last_long O k ps f = after_long O (sets_from O k ps f) ps

-- the empty set has number 0, and no other has
member_none : (O : Offer) (i : ℕ) → member O 0 i ≡ false
member_none O i = rw (zero-div _)

member-some : (O : Offer) (set i : ℕ) → member O set i ≡ true → 0 < set
member-some O zero i e = fails e (member_none O i)
member-some O (suc set) i e = omega arith

-- a UCE as the paper has it is one in the theory's words
module _ (O : Offer) (ps : List ℕ) where
  abbrev bundle : ℕ → Type 0
  bundle s = s < O.bundles

  -- what supports the prices in an economy of the number e is competitive in it
  supports_is : (y : Economy (List ℕ)) (e : ℕ) → Numbers O y e → (a : List ℕ) →
      Supports O ps e a ↔ Competitive (market O) bundle (worth_of O) (price_at O ps) y a
  supports_is y e (lists, present) a = (
    λ c. record {
      among = subst (λ l. a ∈ l) (sym lists) c.among;
      takes = λ d k. c.seller d (subst (λ l. d ∈ l) lists k);
      pleases = λ i r p. c.buyers i r (sym (present i r) ∙ p);
    },
    λ c. record {
      among = subst (λ l. a ∈ l) lists c.among;
      seller = λ d k. c.takes d (subst (λ l. d ∈ l) (sym lists) k);
      buyers = λ i r other. c.pleases i r (present i r ∙ other);
    },
  )

  uce_to : UCE O ps → Universal (market O) bundle (worth_of O) (price_at O ps) (the_auction O).economies
  uce_to u y k = let (e, l, numbers) = economy-number O y k in let (a, c) = u e l in
      (a, (supports_is y e numbers a).0 c)

  uce_from : Universal (market O) bundle (worth_of O) (price_at O ps) (the_auction O).economies → UCE O ps
  uce_from u e l =
      let (y, k, numbers) = number-economy O e l in
      let (a, c) = u y k in
      (a, (supports_is y e numbers a).1 c)

module _ (O : Offer) (regular : Regular O) where
  abbrev X : Auction (List ℕ)
  X = the_auction O

  abbrev L : Layout
  L = layout O

  abbrev all : ℕ
  all = O.bundles

  -- at any ninety-six prices: no set, the empty one included, is undersupplied exactly if they are a UCE
  pub settled_iff_uce : (ps : List ℕ) → Prices ps → (lowest O ps ≡ 0) ↔ UCE O ps
  settled_iff_uce ps prices =
      let fair = small_fair (market O) L all (worth_of O) ps prices in
      let (to, from) =
      settled_is X L all (bits O) O.lists regular.setting (worth_of O) regular.worths ps fair in
      (λ e. uce_from O ps (to e), λ u. from (uce_to O ps u))

  -- at any prices: none is undersupplied exactly if each economy supplies its keen bidders
  pub settled_economies : (ps : List ℕ) →
      (lowest O ps ≡ 0)
      ↔ ((e : ℕ) → e ≤ O.buyers → supplied (market O) (quote O ps) (is_keen O ps) (economy_at O e) ≡ true)
  settled_economies ps =
      let S : Economy (List ℕ) → Type 0 = λ y. supplied (market O) (quote O ps) (is_keen O ps) y ≡ true in
      let (to, from) =
      settled_iff (market O) (quote O ps) X.economies X.member X.sets regular.setting.ready.numbered in (
        λ z e h. to z (economy_at O e) (economy_in O e h),
        λ each. from (economies_all O.buyers O.lists S (each 0 (omega arith))
            (λ i r. but_one_holds O S i (omega arith) (each i (omega arith)))),
      )

  -- the lowest undersupplied set is the least
  pub lowest-least : (ps : List ℕ) (set : ℕ) → lowest O ps ≡ suc set →
      (undersupplied O ps set ≡ true) × ((other : ℕ) → other < set → undersupplied O ps other ≡ false)
  lowest-least ps set e =
      let f = least_of (market O) (quote O ps) X.economies X.member X.sets set e in
      (f.passes, λ other l. f.before other (omega arith) l)

  pub lowest_below : (ps : List ℕ) (set : ℕ) → lowest O ps ≡ suc set → set < 2 ^ bits O
  lowest_below ps set e =
      omega (arith, (least_of (market O) (quote O ps) X.economies X.member X.sets set e).among)

  -- and none of its proper subsets is undersupplied
  pub lowest_minimal : (ps : List ℕ) (set : ℕ) → lowest O ps ≡ suc set →
      Minimal (market O) (quote O ps) X.economies (member O set)
  lowest_minimal ps set e =
      minimal_of (market O) (quote O ps) X.economies X.member X.sets regular.setting.ranked set e

  -- nothing is cut off in a discount, at any prices
  pub exact_discount : (ps : List ℕ) (i : ℕ) → Among O.buyers 1 i → discount_for O ps i + revenue O ps i
      ≡ revenue O ps 0
  unfolding discount_for
  exact_discount ps zero r = absurd (omega arith)
  exact_discount ps (suc i) r = discount_exact (market O) (price_at O ps) (economy_fewer O (suc i))

  -- demand 2
  room : limit X L all (worth_of O) ≤ round_limit O
  room = omega arith

  second : SaleRounds X L all (worth_of O) (zeros L) (start X (worth_of O)) (round_limit O)
  second = sale_rounds X L all (bits O) O.lists regular.setting (worth_of O) regular.worths (round_limit O) room

  pub settles : lowest O (last_prices O) ≡ 0
  unfolding raised start_prices sets_from prices_from sale_sets last_prices
  settles = second.settles

  -- the sale's owners at the last prices
  last_answers : Answers (market O) (λ s. s < all) (worth_of O) (λ i. best O (last_prices O) i - 65535)
      (quote O (last_prices O))
  unfolding start_prices prices_from last_prices
  last_answers =
      quote_answers (priced X L all (bits O) O.lists regular.setting (worth_of O) regular.worths)
      (last_prices O)
      (ends_fair X L all (bits O) O.lists regular.setting (worth_of O) regular.worths (round_limit O))

  bundled : Bundled (market O) (λ s. s < all) O.lists
  bundled = regular.setting.bundled

  sold : (fits O (last_prices O) 0 (owners_by O (last_prices O)) ≡ true)
      × Competitive (market O) (λ s. s < all) (worth_of O) (price_at O (last_prices O)) (whole O.lists)
      (owners_by O (last_prices O))
  unfolding owners_by
  sold =
      closing_competitive (market O) (λ s. s < all) (worth_of O) (λ i. best O (last_prices O) i - 65535)
      (quote O (last_prices O)) last_answers O.lists bundled
      ((settled_iff (market O) (quote O (last_prices O)) X.economies X.member X.sets
      regular.setting.ready.numbered).0 settles
      (whole O.lists) (whole_in O.buyers O.lists)) []

  sold_supports : Supports O (last_prices O) 0 (owners_by O (last_prices O))
  sold_supports =
      let c = sold.1 in
      record { among = c.among; seller = c.takes; buyers = λ i r _. c.pleases i r refl }

  pub ascending : Ascending O
  unfolding raised start_prices sets_from prices_from sale_sets prices_after last_prices
  ascending =
      record {
        last_uce = uce_from O (last_prices O) second.universal;
        none_earlier = λ k l u. second.not_yet k l (uce_to O (prices_after O k) u);
        overdemand = λ k l all.
            undersupplied_keen (market O) (quote O (prices_after O k)) X.economies (member O (set_at O k))
            (member O all)
            (lowest-least (prices_after O k) (set_at O k) (second.each k l)).0;
        lowest_set = second.each;
        least-set = λ k l. lowest-least (prices_after O k) (set_at O k) (second.each k l);
        minimal_set = λ k l. (second.minimal k l).0;
        set_below = λ k l. lowest_below (prices_after O k) (set_at O k) (second.each k l);
        not_empty = λ k l. (second.minimal k l).1;
        from_zeros = refl;
        replay = λ k l. after_one (raised O) (start_prices O) (sale_sets O) k l;
        to_last = ap (after (raised O) (start_prices O)) (take-length (sale_sets O));
        few_rounds = second.few_rounds;
        not_cut = λ i r. omega (arith, second.last-best i r);
        raises =
            omega (
              arith,
              second.raises,
              sum_same (market O).many O.low (λ i. best O (last_prices O) i - 65535)
                  (last X (worth_of O) (start X (worth_of O)) (round_limit O))
                  (λ i r. omega (arith, second.last-best i r)),
            );
        sold_supports = sold_supports;
        sold-fits = sold.0;
      }

  worth_bound : (i s : ℕ) → worth_of O i s ≤ 65535
  worth_bound i s =
      by_test (eqb s 0) (λ e. rw e (omega arith)) (λ e. rw e (regular.small _))

  -- at a sale's own prices the empty set is never undersupplied, so some allocation fits
  module _ (k : ℕ) (l : k ≤ length (sale_sets O)) where
    pub empty_supplied : undersupplied O (prices_after O k) 0 ≡ false
    empty_supplied =
        elim (dec_lt k (length (sale_sets O))) [
          | yes h ↦
              let (i, r, has) = ascending.not_empty k h in
              (ascending.least-set k h).1 0 (member-some O (set_at O k) i has)
          | no h ↦
              let e : k ≡ length (sale_sets O) = omega arith in
              least_none X.sets 0 (λ n. undersupplied O (prices_after O k) n)
              (ap (λ j. lowest O (prices_after O j)) e ∙ ap (lowest O) ascending.to_last ∙ settles) 0
              (omega (arith, pow_some (bits O)))
        ]

    pub fits_always : (e : ℕ) → e ≤ O.buyers → (a : List ℕ) × (a ∈ economy O e) × (fits O (prices_after O k) e a ≡ true)
    fits_always e h =
        let q = quote O (prices_after O k) in
        let (y, m, (same, _)) = number-economy O e h in
        let served : supplied (market O) q (member O 0) y ≡ true =
        by_test (supplied (market O) q (member O 0) y) (λ p. p) (λ p. fails
        ((undersupplied_means (market O) q X.economies (member O 0)).1
        (λ i r t. fails t (member_none O i), (y, m, λ z. fails z p))) empty_supplied) in
        let (a, n, c) = (supplied_means (market O) q (member O 0) y).0 served in
        subst (λ l. (a : List ℕ) × (a ∈ l) × (fits_of (market O) q l a ≡ true)) same (a, n, c.0)

    -- each price is the worth less the payoff, cut off at 0
    pub own_prices : (i s : ℕ) → Bids O i → s < all → price_at O (prices_after O k) i s
        ≡ worth_of O i s - (best O (prices_after O k) i - 65535)
    unfolding raised start_prices sets_from sale_sets prices_after
    own_prices i s r h =
        let v = worth_of O in
        let setting' = regular.setting in
        let worths' = regular.worths in
        let kept = prices_kept X L all (bits O) O.lists setting' v worths' (zeros L) (start X v)
        (begins X L all (bits O) O.lists setting' v worths') (round_limit O) k in
        omega (
          arith,
          kept.prices i r s h,
          best_is (priced X L all (bits O) O.lists setting' v worths')
              (prices_after O k) _ kept i r,
        )

    pub price_bound : (i s : ℕ) → Bids O i → s < all → price_at O (prices_after O k) i s ≤ worth_of O i s
    unfolding raised start_prices sets_from sale_sets prices_after
    price_bound i s r h = second.bounded k i s r h

    pub absent_zero : (j : ℕ) → j < 16 * L.rows → read L all j ≡ false → get_or (prices_after O k) j 0 ≡ 0
    unfolding raised start_prices sets_from sale_sets prices_after
    absent_zero j h e = second.unread k j h e ∙ get_or-replicate (16 * L.rows) j 0 0 h

    -- so all are prices that `AtPrices` is about
    pub round_prices : Prices (prices_after O k)
    round_prices j =
        let ps = prices_after O k in
        let row = j / 16 in
        let i = L.bidder_at row in
        let s = j - 16 * row in
        elim (dec_lt j (16 * L.rows)) [
          | no h ↦ rw (get_or-eq_default ps 0 {n = j} (omega (arith, prices_long O k))) (omega arith)
          | yes h ↦
              by_test (read L all j)
              (λ t.
              let means = and_means (itself (L.taken row)) (and_means (leb_means 1 s) (leb_means (suc s) all)) in
              let (there, rest) = means.0 t in
              let (r, same_row) = regular.setting.laid_out.each_row row there in
              let at : 16 * L.row_of i + s ≡ j = rw same_row (omega arith) in
              let is : price_at O ps i s ≡ get_or ps j 0 =
              rw (ne_eqb s 0 (λ z. omega (arith, rest))) (ap (λ x. get_or ps x 0) at) in
              omega (arith, is, price_bound i s r rest.1, worth_bound i s))
              (λ t. rw (absent_zero j h t) (omega arith))
        ]
