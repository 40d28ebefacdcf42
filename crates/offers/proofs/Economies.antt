-- The economies of an offer by their numbers (`Numbers`, `economy-number`, `number-economy`, `at-number`); each has
-- some of all allocations (`economy_fewer`), a buyer is present in every one but its own (`present_other`), a
-- revenue is reached and not passed (`revenue-greatest`), and fewer of them make an auction too (`judged_regular`).
use mathlib.Core.Path.{◌≡◌, refl}
use mathlib.Core.Logic.{◌≢◌, ◌↔◌}
use mathlib.Core.Bool.{true}
use mathlib.Core.List.{List}
use Prim.Native.Nat.{ℕ, zero, suc, ◌≤◌}
use native.Mathlib.Omega.{arith}
use Rattle.theory.specs.Lists.{◌∈◌}
use Rattle.theory.specs.Markets.{total}
use Rattle.theory.specs.Auction.{Economy, whole, lacking}
use Rattle.theory.proofs.Tests.{not_means, eqb_means}
use Rattle.theory.proofs.Lists.{most_upper, most-reached, keep_from}
use Rattle.owners.specs.Owners.{lacks}
use Rattle.owners.specs.Quick.{present_in}
use Rattle.owners.specs.Sales.{Valuations, Setting}
use Rattle.owners.proofs.Economies.{economies_all, whole_in, lacking_in}
use Rattle.offers.specs.Offers.{Offer, market, Bids, layout, bits, worth_of, price_at, without, economy, judged_in}
use Rattle.offers.specs.Offers.{the_auction, revenue}
use Rattle.offers.specs.Claims.{economy_at, Regular}

-- an economy has the number e: its lists, and who is present
abbrev pub Numbers : Offer → Economy (List ℕ) → ℕ → Type 0
Numbers O y e = (y.lists ≡ economy O e) × ((i : ℕ) → Bids O i → y.present i ≡ present_in e i)

-- a buyer is present in every economy but its own
pub present_other : (e i : ℕ) → 1 ≤ i → (present_in e i ≡ true) ↔ (i ≢ e)
present_other zero i h = (λ _ z. omega arith, λ _. refl)
present_other (suc e) i h = not_means (eqb_means i (suc e))

module _ (O : Offer) where
  pub but_one : (i : ℕ) → 1 ≤ i → without O i ≡ economy O i
  but_one zero h = absurd (omega arith)
  but_one (suc i) h = refl

  but_present : (i : ℕ) → 1 ≤ i → (j : ℕ) → (lacking {A = List ℕ} i (without O i)).present j ≡ present_in i j
  but_present zero h j = absurd (omega arith)
  but_present (suc i) h j = refl

  -- what holds of the economy without buyer i, by its number, holds of it as the auction lists it
  pub but_one_holds : (P : Economy (List ℕ) → Type 0) (i : ℕ) → 1 ≤ i → P (economy_at O i) → P (lacking i (without O i))
  but_one_holds P zero h p = absurd (omega arith)
  but_one_holds P (suc i) h p = p

  pub economy-number : (y : Economy (List ℕ)) → y ∈ (the_auction O).economies →
      (e : ℕ) × (e ≤ O.buyers) × Numbers O y e
  economy-number =
      economies_all O.buyers O.lists (λ y. (e : ℕ) × (e ≤ O.buyers) × Numbers O y e)
      (0, omega arith, (refl, λ i r. refl))
      (λ i r. (i, omega arith, (but_one i (omega arith), λ j q. but_present i (omega arith) j)))

  pub number-economy : (e : ℕ) → e ≤ O.buyers → (y : Economy (List ℕ)) × (y ∈ (the_auction O).economies) × Numbers O y e
  number-economy zero h = (whole O.lists, whole_in O.buyers O.lists, (refl, λ i r. refl))
  number-economy (suc e) h = (
    lacking (suc e) (without O (suc e)),
    lacking_in O.buyers O.lists (suc e) (omega arith),
    (refl, λ j q. refl),
  )

  pub at-number : (e : ℕ) → Numbers O (economy_at O e) e
  at-number e = (refl, λ i r. refl)

  pub economy_in : (e : ℕ) → e ≤ O.buyers → economy_at O e ∈ (the_auction O).economies
  economy_in zero h = whole_in O.buyers O.lists
  economy_in (suc e) h = lacking_in O.buyers O.lists (suc e) (omega arith)

  pub economy_fewer : (e : ℕ) (a : List ℕ) → a ∈ economy O e → a ∈ O.lists
  economy_fewer zero a h = h
  economy_fewer (suc e) a h = (keep_from (lacks (suc e)) O.lists h).0

  pub revenue-greatest : Regular O → (ps : List ℕ) (e : ℕ) →
      ((a : List ℕ) × (a ∈ economy O e) × (total (market O) (price_at O ps) a ≡ revenue O ps e))
      × ((c : List ℕ) → c ∈ economy O e → total (market O) (price_at O ps) c ≤ revenue O ps e)
  revenue-greatest regular ps e = (
    most-reached (total (market O) (price_at O ps)) (regular.some e).1,
    λ c m. most_upper (total (market O) (price_at O ps)) m,
  )

-- what is asked of the auction with all economies holds of it with fewer
pub judged_regular : (O : Offer) → Regular O → (k : ℕ) → k ≤ O.buyers →
    Setting (judged_in O k) (layout O) O.bundles (bits O) O.lists
    × Valuations (judged_in O k) (layout O) O.bundles (worth_of O)
judged_regular O regular k few =
    let setting = regular.setting in
    let worths = regular.worths in
    let one : (e : Economy (List ℕ)) → e ∈ (judged_in O k).economies → e ∈ (the_auction O).economies =
    economies_all k O.lists (λ e. e ∈ (the_auction O).economies) (whole_in O.buyers O.lists)
    (λ i r. lacking_in O.buyers O.lists i (omega arith)) in (
      record {
        ready = record { sound = λ e m. setting.ready.sound e (one e m); numbered = setting.ready.numbered };
        ranked = setting.ranked;
        laid_out = setting.laid_out;
        small = setting.small;
        topped = setting.topped;
        bundled = setting.bundled;
        someone = setting.someone;
        part = λ e m. setting.part e (one e m);
        everybody = whole_in k O.lists;
      },
      record {
        proper = record { monotone = worths.proper.monotone; free = worths.proper.free };
        topmost = worths.topmost;
      },
    )
