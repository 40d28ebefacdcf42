-- The revenues of an offer's sale from one round to the next (`from_round`): what they rise by (`raised-revenue`), and
-- that none falls, since no price does (`revenue_rises`).
use mathlib.Core.Path.{◌≡◌, refl, ap}
use mathlib.Core.Bool.{not}
use mathlib.Core.List.{List}
use Prim.Native.Nat.{ℕ, suc, ◌+◌, ◌≤◌, ◌<◌}
use native.Mathlib.Omega.{arith}
use native.Mathlib.Decide.{ℕ_discrete}
use lib.Dec.{eqb}
use lib.ListN.{length}
use Rattle.theory.specs.Sums.{when}
use Rattle.theory.specs.Lists.{most}
use Rattle.theory.specs.Markets.{total}
use Rattle.theory.specs.Auction.{start}
use Rattle.theory.specs.Coalitions.{roster_of, holder, Values}
use Rattle.theory.specs.Kept.{around}
use Rattle.theory.proofs.Sums.{sum_mono}
use Rattle.theory.proofs.Coalitions.{exact_values}
use Rattle.owners.specs.Prices.{zeros}
use Rattle.owners.proofs.Sales.{begins, prices_kept}
use Rattle.owners.proofs.Quick.{kept_revenue}
use Rattle.offers.specs.Offers.{Offer, market, Bids, layout, bits, worth_of, price_at, the_auction, revenue}
use Rattle.offers.specs.Rounds.{raised, round_limit, start_prices, sets_from, sale_sets, prices_after}
use Rattle.offers.specs.Claims.{economy_at, supplied_at, members_at, set_at, FromRound, Regular}
use Rattle.offers.proofs.Economies.{economy_in, economy_fewer, revenue-greatest}
use Rattle.offers.proofs.Demanding.{raised-price}
use Rattle.offers.proofs.Theorems.{ascending, round_prices}

-- the set of those that hold something in an allocation has a number, and so there are values of sets
module _ (O : Offer) (regular : Regular O) where
  abbrev name : List ℕ → ℕ
  name a = (regular.setting.ready.numbered (holder (market O) a)).0

  values : Values (the_auction O) (worth_of O) O.lists
      (λ n. most (λ a. when (eqb (name a) n) (total (market O) (worth_of O) a)) O.lists)
  values =
      exact_values (the_auction O) (worth_of O) (regular.some 0).1 name
      (λ a k. let (n, l, same) = regular.setting.ready.numbered (holder (market O) a) in (l, same))

module _ (O : Offer) (regular : Regular O) (k : ℕ) (l : k < length (sale_sets O)) where
  abbrev ps : List ℕ
  ps = prices_after O k

  abbrev next : List ℕ
  next = raised O (set_at O k) ps

  replayed : (e : ℕ) → revenue O (prices_after O (suc k)) e ≡ revenue O next e
  replayed e = ap (λ qs. revenue O qs e) ((ascending O regular).replay k l)

  abbrev members : ℕ → ℕ
  members e = around (roster_of (the_auction O)) (economy_at O e).present (set_at O k)

  members_counted : (e : ℕ) → members e ≡ members_at O e (set_at O k)
  members_counted e = refl

  raised-revenue : (e : ℕ) → e ≤ O.buyers →
      revenue O next e + when (not (supplied_at O ps e (set_at O k))) 1 ≡ revenue O ps e + members e
  unfolding raised start_prices sets_from sale_sets prices_after
  raised-revenue e h =
      let X = the_auction O in
      let L = layout O in
      let v = worth_of O in
      let setting = regular.setting in
      let kept = prices_kept X L O.bundles (bits O) O.lists setting v regular.worths (zeros L) (start X v)
      (begins X L O.bundles (bits O) O.lists setting v regular.worths) (round_limit O) k in
      kept_revenue X L O.bundles (bits O) O.lists setting v regular.worths _ (values O regular) ps _ kept
      (set_at O k) ((ascending O regular).lowest_set k l) (economy_at O e) (economy_in O e h)

  price_rises : (i s : ℕ) → Bids O i → s < O.bundles → price_at O ps i s ≤ price_at O next i s
  price_rises i s r h =
      elim (ℕ_discrete s 0) [
        | yes e ↦ rw e (omega arith)
        | no e ↦
            omega (
              arith,
              raised-price O regular ps (round_prices O regular k (omega arith)) (set_at O k) i s r (omega arith) h,
            )
      ]

  revenue_rises : (e : ℕ) → revenue O ps e ≤ revenue O next e
  revenue_rises e =
      let ((a, m, is), _) = revenue-greatest O regular ps e in
      let (_, most) = revenue-greatest O regular next e in
      let more : total (market O) (price_at O ps) a ≤ total (market O) (price_at O next) a =
      sum_mono (market O).many O.low (λ i. price_at O ps i ((market O).holds a i))
      (λ i. price_at O next i ((market O).holds a i))
      (λ i r. price_rises i ((market O).holds a i) r (regular.setting.bundled a (economy_fewer O e a m) i r)) in
      omega (arith, is, more, most a m)

  pub from_round : FromRound O k
  from_round =
      record {
        kept_revenues = λ e h. omega (arith, replayed e, raised-revenue e h, members_counted e);
        never_falls = λ e h. omega (arith, replayed e, revenue_rises e);
      }
