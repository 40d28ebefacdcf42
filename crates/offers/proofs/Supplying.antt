-- What a fitting allocation, a set supplied in an economy and an undersupplied set are, at any prices (`fits_means`,
-- `supplied_means`, `undersupplied_means`).
use mathlib.Core.Path.{◌≡◌, refl, sym, subst, ◌∙◌}
use mathlib.Core.Logic.{◌⊎◌, ◌↔◌}
use mathlib.Core.Bool.{true, ◌&&◌}
use mathlib.Core.List.{List}
use Prim.Native.Nat.{ℕ, ◌≤◌}
use native.Mathlib.Omega.{arith}
use Rattle.theory.specs.Lists.{◌∈◌, most}
use Rattle.theory.specs.Markets.{total}
use Rattle.theory.specs.Auction.{Economy, supplied, fits as fits_of}
use Rattle.theory.proofs.Tests.{Means, means_via, itself, and_means, or_means, eqb_means, every_means}
use Rattle.theory.proofs.Lists.{most_upper, most_is}
use Rattle.theory.proofs.Auction as auction
use Rattle.owners.specs.Quick.{present_in}
use Rattle.offers.specs.Offers.{Offer, market, Bids, member, price_at, the_auction, economy, quote, is_keen, fits}
use Rattle.offers.specs.Offers.{undersupplied}
use Rattle.offers.specs.Claims.{Prices, Demanded, economy_at, supplied_at, Regular}
use Rattle.offers.proofs.Economies.{Numbers, economy-number, number-economy, at-number, economy_fewer}
use Rattle.offers.proofs.Demanding.{wants_means}

module _ (O : Offer) (regular : Regular O) (ps : List ℕ) (prices : Prices ps) where
  abbrev takings : List ℕ → ℕ
  takings = total (market O) (price_at O ps)

  -- a buyer's bundle in an allocation of an economy
  held_means : (e : ℕ) (a : List ℕ) → a ∈ economy O e → (i : ℕ) → Bids O i →
      Means ((quote O ps).wants i ((market O).holds a i)) (Demanded O ps i ((market O).holds a i))
  held_means e a k i r =
      wants_means O regular ps prices i ((market O).holds a i) r
      (regular.setting.bundled a (economy_fewer O e a k) i r)

  pub fits_means : (e : ℕ) (a : List ℕ) → a ∈ economy O e → (fits O ps e a ≡ true) ↔
      (((c : List ℕ) → c ∈ economy O e → takings c ≤ takings a)
      × ((i : ℕ) → Bids O i → ((market O).holds a i ≡ 0) ⊎ Demanded O ps i ((market O).holds a i)))
  fits_means e a k =
      means_via
      (and_means (eqb_means (takings a) (most takings (economy O e)))
      (every_means (market O).many O.low
      (λ i r. or_means (eqb_means ((market O).holds a i) 0) (held_means e a k i r))))
      (λ (top, each). (λ c h. omega (arith, most_upper takings h), each))
      (λ (top, each). (sym (most_is takings (takings a) top k refl), each))

  -- every member present has a demanded bundle
  abbrev Served : ℕ → ℕ → List ℕ → Type 0
  Served set e a =
      (i : ℕ) → Bids O i → present_in e i ≡ true → member O set i ≡ true → Demanded O ps i ((market O).holds a i)

  served_means : (set e : ℕ) (y : Economy (List ℕ)) → Numbers O y e →
      Means (supplied (market O) (quote O ps) (member O set) y)
      ((a : List ℕ) × (a ∈ economy O e) × (fits O ps e a ≡ true) × Served set e a)
  served_means set e y (lists, present) =
      means_via (auction.supplied_means (market O) (quote O ps) (member O set) y)
      (λ (a, k, (fit, suits)).
      let k' = subst (λ l. a ∈ l) lists k in (
        a,
        k',
        subst (λ l. fits_of (market O) (quote O ps) l a ≡ true) lists fit,
        λ i r here has.
            let both : (y.present i && member O set i) ≡ true = rw (present i r, here) has in
            (held_means e a k' i r).0 (suits i r both),
      ))
      (λ (a, k, fit, served). (
        a,
        subst (λ l. a ∈ l) (sym lists) k,
        (
          subst (λ l. fits_of (market O) (quote O ps) l a ≡ true) (sym lists) fit,
          λ i r here.
              let (there, has) = (and_means (itself (y.present i)) (itself (member O set i))).0 here in
              (held_means e a k i r).1 (served i r (sym (present i r) ∙ there) has),
        ),
      ))

  pub supplied_means : (e set : ℕ) → (supplied_at O ps e set ≡ true) ↔
      ((a : List ℕ) × (a ∈ economy O e) × (fits O ps e a ≡ true) × Served set e a)
  supplied_means e set = served_means set e (economy_at O e) (at-number O e)

  pub undersupplied_means : (set : ℕ) → (undersupplied O ps set ≡ true) ↔
      (((i : ℕ) → Bids O i → member O set i ≡ true → is_keen O ps i ≡ true)
      × ((e : ℕ) × (e ≤ O.buyers) × ((a : List ℕ) → a ∈ economy O e → fits O ps e a ≡ true → Served set e a → ⊥)))
  undersupplied_means set =
      means_via (auction.undersupplied_means (market O) (quote O ps) (the_auction O).economies (member O set))
      (λ (keen, (y, k, short)).
      let (e, h, numbers) = economy-number O y k in
      (keen, (e, h, λ a k fit served. short ((served_means set e y numbers).1 (a, k, fit, served)))))
      (λ (keen, (e, h, none)).
      let (y, k, numbers) = number-economy O e h in
      (keen, (y, k, λ x. let (a, k, fit, served) = (served_means set e y numbers).0 x in none a k fit served)))
