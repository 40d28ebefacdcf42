-- The entries of a table that rule 1.7 names make no difference (`reads_present`).
use mathlib.Core.Path.{◌≡◌, ap}
use mathlib.Core.Bool.{◌||◌}
use mathlib.Core.List.{List}
use Prim.Native.Nat.{ℕ, ◌+◌, ◌-◌, ◌^◌, ◌<◌}
use native.Mathlib.Omega.{arith}
use native.Mathlib.Decide.{ℕ_discrete}
use lib.Dec.{eqb}
use borrow.Author.Tests.{ne_eqb}
use Rattle.theory.specs.Sums.{when}
use Rattle.theory.specs.Lists.{◌∈◌, up_to}
use Rattle.theory.specs.Markets.{total}
use Rattle.theory.specs.Auction.{Economy}
use Rattle.theory.proofs.Tests.{every_same}
use Rattle.theory.proofs.Sums.{sum_same}
use Rattle.theory.proofs.Lists.{most_same, keep_from, up_to_from}
use Rattle.theory.proofs.Alike.{lowest_alike}
use Rattle.owners.specs.Owners.{lacks}
use Rattle.owners.specs.Prices.{payoff}
use Rattle.owners.proofs.Economies.{economies_all}
use Rattle.offers.specs.Offers.{Offer, market, Bids, layout, worth_of, price_at, the_auction, economy, best, quote}
use Rattle.offers.specs.Offers.{demands, is_keen, revenue}
use Rattle.offers.specs.Claims.{Agree, SameAnswers, Regular}
use Rattle.offers.proofs.Economies.{economy_fewer}

lists_fewer : (O : Offer) (e : Economy (List ℕ)) → e ∈ (the_auction O).economies → (a : List ℕ) → a ∈ e.lists →
    a ∈ O.lists
lists_fewer O =
    economies_all O.buyers O.lists (λ e. (a : List ℕ) → a ∈ e.lists → a ∈ O.lists) (λ a h. h)
    (λ i r a h. (keep_from (lacks i) O.lists h).0)

module _ (O : Offer) (regular : Regular O) (ps qs : List ℕ) (agree : Agree O ps qs) where
  below : (a : List ℕ) → a ∈ O.lists → (i : ℕ) → Bids O i → (market O).holds a i < O.bundles
  below a m i r = regular.setting.bundled a m i r

  price_same : (i s : ℕ) → Bids O i → s < O.bundles → price_at O ps i s ≡ price_at O qs i s
  price_same i s r h = elim (ℕ_discrete s 0) [ yes e ↦ rw e | no e ↦ rw (ne_eqb s 0 e) (agree i s r (omega arith) h) ]

  best_same : (i : ℕ) → Bids O i → best O ps i ≡ best O qs i
  best_same i r =
      most_same (payoff (layout O) (worth_of O) ps i) (payoff (layout O) (worth_of O) qs i) (up_to O.bundles 0)
      (λ s m. ap (λ p. worth_of O i s + 65535 - p) (price_same i s r (omega (arith, up_to_from O.bundles 0 m))))

  demands_same : (i s : ℕ) → Bids O i → s < O.bundles → demands O ps i s ≡ demands O qs i s
  demands_same i s r h = rw (price_same i s r h, best_same i r)

  keen_same : (i : ℕ) → Bids O i → is_keen O ps i ≡ is_keen O qs i
  keen_same i r = rw (best_same i r)

  total_same : (a : List ℕ) → a ∈ O.lists → total (market O) (price_at O ps) a ≡ total (market O) (price_at O qs) a
  total_same a m = sum_same (market O).many O.low _ _ (λ i r. price_same i ((market O).holds a i) r (below a m i r))

  revenue_same : (e : ℕ) → revenue O ps e ≡ revenue O qs e
  revenue_same e =
      most_same (total (market O) (price_at O ps)) (total (market O) (price_at O qs)) (economy O e)
      (λ a m. total_same a (economy_fewer O e a m))

  pub reads_present : SameAnswers O ps qs
  reads_present =
      record {
        demand =
            λ i r. sum_same O.bundles 0 _ _ (λ s q. ap (λ t. when t (2 ^ s)) (demands_same i s r (omega arith)));
        keen = keen_same;
        revenues = λ e _. revenue_same e;
        fitting = λ e _ a m.
            let n = economy_fewer O e a m in
            rw (
              total_same a n,
              revenue_same e,
              every_same (market O).many O.low
                  (λ i. eqb ((market O).holds a i) 0 || demands O ps i ((market O).holds a i))
                  (λ i. eqb ((market O).holds a i) 0 || demands O qs i ((market O).holds a i))
                  (λ i r. rw (demands_same i ((market O).holds a i) r (below a n i r))),
            );
        chosen =
            lowest_alike (market O) (quote O ps) (quote O qs) keen_same (the_auction O).member (the_auction O).sets
            (the_auction O).economies (λ e m.
            let sub = lists_fewer O e m in
            record {
              prices = λ a k i r. price_same i ((market O).holds a i) r (below a (sub a k) i r);
              wants = λ a k i r. demands_same i ((market O).holds a i) r (below a (sub a k) i r);
            });
      }
