-- Settled prices, a sale's or others: each economy has an equilibrium (`settled_equilibrium`), the closing is the
-- direct way's allocation (`settled_owners`), and payments by prices are those by worths (`settled_payment`,
-- `settled_exact`). Assumes a `Settlement`.
use mathlib.Core.Path.{◌≡◌, refl}
use mathlib.Core.Logic.{◌↔◌, ◌⊎◌}
use mathlib.Core.Bool.{true}
use mathlib.Core.List.{List}
use Prim.Native.Nat.{ℕ}
use native.Mathlib.Omega.{arith}
use lib.Dec.{eqb}
use Rattle.theory.specs.Lists.{◌∈◌, most, Ordered}
use Rattle.theory.specs.Markets.{Market, Table, Bidder, total, Efficient, Covered, Equilibrium, Pays, Exact}
use Rattle.theory.specs.Markets.{worth_pay, price_pay, only}
use Rattle.theory.specs.Auction.{Economy, whole, lacking, Quote, closes, closing, direct, Truthful, Absent}
use Rattle.theory.specs.Auction.{Auction, Marginal, Settlement}
use Rattle.theory.proofs.Tests.{by_test, eqb_means, same_test, fails}
use Rattle.theory.proofs.Lists.{most-reached, first_same, first_in, first_passes, first-before}
use Rattle.theory.proofs.Duality.{efficient_equilibrium}
use Rattle.theory.proofs.Payments.{pays_alike, pays_some, discount_exact, pays_exact, pays_discount}
use Rattle.theory.proofs.Auction.{settled_iff, closes_equilibrium, supplied_equilibrium}

-- the direct way's allocation
module _ {A : Type 0} (M : Market A) (v : Table) {al : List A} {a : A} (m : a ∈ al) (d : A) where
  reaches : (x : A) × (x ∈ al) × (eqb (total M v x) (most (total M v) al) ≡ true)
  reaches = let (x, n, e) = most-reached (total M v) m in (x, n, (eqb_means _ _).1 e)

  pub direct_in : direct M v al d ∈ al
  direct_in = first_in _ d reaches.1 reaches.2

  pub direct_efficient : Efficient M v al (direct M v al d)
  direct_efficient =
      (eqb_means _ _).0 (first_passes (λ a. eqb (total M v a) (most (total M v) al)) d reaches.1 reaches.2)

  -- in an ordered list it comes before every other of greatest total
  pub direct-first : (R : A → A → Type 0) → Ordered R al → {c : A} → c ∈ al → Efficient M v al c →
      (c ≡ direct M v al d) ⊎ R (direct M v al d) c
  direct-first R order n best = first-before _ d R order n ((eqb_means _ _).1 best)

pub covered_present : {A : Type 0} (M : Market A) (v : Table) (b : ℕ → ℕ) (q : Quote) (e : Economy A) →
    Truthful M v b e.lists q → Absent M e → Covered M v q.prices (only e.present b) e.lists
covered_present M v b q e truthful absent a n i r =
    by_test (e.present i)
    (λ p. rw p (truthful.covered a n i r))
    (λ p. rw (p, absent a n i r p) (omega (arith, truthful.free i r)))

module _ {A : Type 0} (X : Auction A) (v : Table) (b : ℕ → ℕ) (q : Quote) (at : Settlement X v b q) where
  abbrev M : Market A
  M = X.market

  absent : (e : Economy A) → e ∈ X.economies → Absent M e
  absent e m = (at.ready.sound e m).absent

  pub settled_equilibrium : (e : Economy A) → e ∈ X.economies →
      (x : A) × (x ∈ e.lists) × Equilibrium M v q.prices (only e.present b) e.lists x
  settled_equilibrium e m =
      (supplied_equilibrium M v b q e (at.truthful e m) (absent e m)).0
      ((settled_iff M q X.economies X.member X.sets at.ready.numbered).0 at.settled e m)

  module _ (al : List A) (all : whole al ∈ X.economies) where
    covered : Covered M v q.prices b al
    covered = (at.truthful (whole al) all).covered

    -- the equilibria are the efficient allocations
    pub settled_efficient : {x : A} → x ∈ al → Efficient M v al x ↔ Equilibrium M v q.prices b al x
    settled_efficient n =
        let (y, m, e) = settled_equilibrium (whole al) all in
        efficient_equilibrium M v q.prices b al covered m e n

    closes_efficient : {a : A} → a ∈ al → closes M q q.keen al a ≡ eqb (total M v a) (most (total M v) al)
    closes_efficient {a} n =
        let c = closes_equilibrium M v b q al (at.truthful (whole al) all) n (λ _. true) (λ i r p. fails refl p) in
        let f = settled_efficient n in
        let t = eqb_means (total M v a) (most (total M v) al) in
        same_test _ _ (λ p. t.1 (f.1 (c.0 p))) (λ p. c.1 (f.0 (t.0 p)))

    pub settled_owners : (d : A) → closing M q al d ≡ direct M v al d
    settled_owners d = first_same _ _ d al (λ a n. closes_efficient n)

    -- what i pays for its part of an efficient allocation, by prices or by worths
    module _
        (i : ℕ) (al_i : List A) (buyer : Marginal X al i al_i)
        {x : A} (m : x ∈ al) (best : Efficient M v al x) where
      abbrev bidder : Bidder M i
      bidder = buyer.leaving.bidder

      abbrev fewer : (a : A) → a ∈ al_i → a ∈ al
      fewer = buyer.leaving.fewer

      pub settled_pays : (n : ℕ) → Pays M q.prices i al al_i x n ↔ Pays M v i al al_i x n
      settled_pays n =
          let e = lacking i al_i in
          let rest = buyer.others in
          let (y, k, equilibrium) = settled_equilibrium e rest in
          pays_alike M i bidder al al_i v q.prices b covered m ((settled_efficient m).0 best)
          (covered_present M v b q e (at.truthful e rest) (absent e rest)) k equilibrium n

      paid : Pays M q.prices i al al_i x (worth_pay M v i al al_i x)
      paid =
          (settled_pays _).1
          (pays_some M i bidder al al_i X.within v at.proper.monotone buyer.leaving.leaves m best)

      -- the price less the discount is what the direct way has i pay
      pub settled_payment : price_pay M q.prices i al al_i x ≡ worth_pay M v i al al_i x
      settled_payment = pays_discount M q.prices fewer i x _ paid

      pub settled_exact : Exact M v q.prices i al al_i x
      settled_exact =
          let price = rw (← settled_payment) at (pays_exact M q.prices fewer i x _ paid) in
          let serves = ((settled_efficient m).0 best).serves i bidder in
          record {
            discounted = discount_exact M q.prices fewer;
            paid = price;
            priced = omega arith;
            cheap = omega arith;
          }
