-- What a demand set, a keen bidder and a raise are, at any prices (`demand_means`, `demand_some`, `keen_means`,
-- `raised-price`).
use mathlib.Core.Path.{◌≡◌, sym, ap, ◌∙◌}
use mathlib.Core.Logic.{◌↔◌}
use mathlib.Core.Bool.{true, ◌&&◌}
use mathlib.Core.List.{List}
use Prim.Native.Nat.{ℕ, ◌+◌, ◌-◌, ◌≤◌, ◌<◌}
use native.Mathlib.Omega.{arith}
use Rattle.theory.specs.Sums.{when}
use Rattle.theory.specs.Universal.{Answers}
use Rattle.theory.proofs.Tests.{Means}
use Rattle.numbers.specs.Numbers.{bit}
use Rattle.owners.proofs.Bits.{demand_bit}
use Rattle.owners.proofs.Prices.{Priced, small_fair, quote_answers, raised-price as price_raised}
use Rattle.owners.proofs.Sales.{priced}
use Rattle.offers.specs.Offers.{Offer, market, Bids, layout, member, bits, worth_of, price_at, the_auction, best}
use Rattle.offers.specs.Offers.{quote}
use Rattle.offers.specs.Offers.{demand_set, is_keen}
use Rattle.offers.specs.Rounds.{raised}
use Rattle.offers.specs.Claims.{Prices, Demanded, Regular}

module _ (O : Offer) (regular : Regular O) (ps : List ℕ) (prices : Prices ps) where
  abbrev all : ℕ
  all = O.bundles

  pub known : Priced (market O) (layout O) (bits O) all (the_auction O).top (worth_of O)
  known = priced (the_auction O) (layout O) all (bits O) O.lists regular.setting (worth_of O) regular.worths

  pub answers : Answers (market O) (λ s. s < all) (worth_of O) (λ i. best O ps i - 65535) (quote O ps)
  answers = quote_answers known ps (small_fair (market O) (layout O) all (worth_of O) ps prices)

  pub wants_means : (i s : ℕ) → Bids O i → s < all → Means ((quote O ps).wants i s) (Demanded O ps i s)
  wants_means i s r h =
      let (to, from) = answers.wanted i r s h in
      let (t, g, e) = answers.reached i r in (
        λ x u k. omega (arith, to x, answers.covered i r u k),
        λ most. from (omega (arith, most t g, e, answers.covered i r s h)),
      )

  pub demand_means : (i s : ℕ) → Bids O i → s < all → (bit s (demand_set O ps i) ≡ true) ↔ Demanded O ps i s
  demand_means i s r h =
      let is_bit = demand_bit all (quote O ps) i s h in
      let (to, from) = wants_means i s r h in
      (λ x. to (sym is_bit ∙ x), λ most. is_bit ∙ from most)

  pub keen_means : (i : ℕ) → Bids O i →
      (is_keen O ps i ≡ true) ↔ ((s : ℕ) × (s < all) × (price_at O ps i s < worth_of O i s))
  keen_means i r =
      let (to, from) = answers.eager i r in (
        λ x. let (s, h, e) = answers.reached i r in (s, h, omega (arith, to x, e)),
        λ (s, h, l). from (omega (arith, l, answers.covered i r s h)),
      )

  pub demand_some : (i : ℕ) → Bids O i → (s : ℕ) × (s < all) × (bit s (demand_set O ps i) ≡ true)
  demand_some i r =
      let (s, h, e) = answers.reached i r in
      (s, h, demand_bit all (quote O ps) i s h ∙ (answers.wanted i r s h).1 e)

  pub raised-price : (set i s : ℕ) → Bids O i → 1 ≤ s → s < all →
      price_at O (raised O set ps) i s ≡ price_at O ps i s + when (member O set i && bit s (demand_set O ps i)) 1
  unfolding raised
  raised-price set i s r l h =
      price_raised known (member O set) ps i s r l h
      ∙ ap (λ t. price_at O ps i s + when (member O set i && t) 1) (sym (demand_bit all (quote O ps) i s h))
