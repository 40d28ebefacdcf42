-- The outcome: at settled prices owners and payments are the direct way's (`same_owners`, `same_payment`), nothing is
-- cut off (`payment_exact`, `direct_pays`), and the direct way no bidder gains by another table than its true one
-- (`no_gain_direct`). Assumes an allocation, and for payments a bidder that can be left out.
use mathlib.Core.Path.{◌≡◌}
use mathlib.Core.Logic.{◌≢◌}
use mathlib.Core.List.{List}
use Prim.Native.Nat.{ℕ, ◌+◌, ◌≤◌}
use Rattle.theory.specs.Lists.{◌∈◌}
use Rattle.theory.specs.Markets.{Market, Table, Bidder, Pays, Exact, worth_pay, price_pay}
use Rattle.theory.specs.Auction.{Quote, whole, closing, direct, Auction, Proper, Leaving, Marginal, Settlement}
use Rattle.theory.proofs.Payments.{pays_some}
use Rattle.theory.proofs.NoGain.{no_gain}
use Rattle.theory.proofs.Settled.{direct_in, direct_efficient, settled_owners, settled_payment, settled_exact}

module _ {A : Type 0} (X : Auction A) (al : List A) {a : A} (m : a ∈ al) (d : A) where
  abbrev M : Market A
  M = X.market

  -- the closing's allocation, and the direct way's
  abbrev owners : Quote → A
  owners q = closing M q al d

  abbrev direct_owners : Table → A
  direct_owners v = direct M v al d

  module _ (all : whole al ∈ X.economies) (v : Table) (b : ℕ → ℕ) (q : Quote) (at : Settlement X v b q) where
    pub same_owners : owners q ≡ direct_owners v
    same_owners = settled_owners X v b q at al all d

    module _ (i : ℕ) (al_i : List A) (buyer : Marginal X al i al_i) where
      pub same_payment : price_pay M q.prices i al al_i (owners q) ≡ worth_pay M v i al al_i (direct_owners v)
      same_payment =
          rw same_owners
          (settled_payment X v b q at al all i al_i buyer (direct_in M v m d) (direct_efficient M v m d))

      pub payment_exact : Exact M v q.prices i al al_i (owners q)
      payment_exact =
          rw same_owners
          (settled_exact X v b q at al all i al_i buyer (direct_in M v m d) (direct_efficient M v m d))

  -- the direct way's payment is the VCG payment, whatever the prices
  pub direct_pays : (i : ℕ) (al_i : List A) → Leaving X al i al_i → (v : Table) → Proper X v →
      Pays M v i al al_i (direct_owners v) (worth_pay M v i al al_i (direct_owners v))
  direct_pays i al_i leaving v proper =
      pays_some M i leaving.bidder al al_i X.within v proper.monotone leaving.leaves
      (direct_in M v m d) (direct_efficient M v m d)

  -- i's true table is v and its other one w: they differ at most for i, and not where i has no part
  module _
      (i : ℕ) (al_i : List A) (v w : Table)
      (others : (a : A) → a ∈ al → (j : ℕ) → Bidder M j → j ≢ i → v j (M.holds a j) ≡ w j (M.holds a j))
      (absent : (a : A) → a ∈ al_i → (j : ℕ) → Bidder M j → v j (M.holds a j) ≡ w j (M.holds a j)) where
    pub no_gain_direct : Leaving X al i al_i → Proper X v → Proper X w →
        v i (M.holds (direct_owners w) i) + worth_pay M v i al al_i (direct_owners v) ≤
        v i (M.holds (direct_owners v) i) + worth_pay M w i al al_i (direct_owners w)
    no_gain_direct leaving proper proper' =
        no_gain M i leaving.bidder al al_i v w others absent
        (direct_owners v) (direct_in M w m d) (direct_efficient M w m d) _ _
        (direct_pays i al_i leaving v proper) (direct_pays i al_i leaving w proper')
