-- Offers whose allocations are words (`Packed`): to at most six buyers, with at most four lots. What stands in a word
-- is what stands in the allocation (`held`, `in_word`), and the lots of a sheet are such (`lots_packed`, `lots_lent`).
use mathlib.Core.Path.{◌≡◌, refl, ap, ◌∙◌}
use mathlib.Core.Bool.{◌||◌}
use mathlib.Core.List.{List}
use Prim.Native.Nat.{ℕ, ◌^◌, ◌≤◌}
use native.Mathlib.Omega.{arith}
use lib.Dec.{eqb}
use lib.Pow.{pow_pos}
use borrow.Author.Tests.{eqb-true, eq-eqb}
use Rattle.theory.specs.Lists.{◌∈◌}
use Rattle.theory.proofs.Tests.{same_test}
use Rattle.owners.specs.Owners.{bundle_from, lacks, zero_first}
use Rattle.owners.proofs.Owners.{allocation_from, bundle_none, bundle_lacks}
use Rattle.offers.specs.Offers.{Offer, lots_among, market}
use Rattle.offers.specs.Claims.{Regular}
use Rattle.lists.specs.Words.{digit, word_of, lot_words, Packed, Lent}
use Rattle.lists.proofs.Words.{lots_pack, word_bundle}

module _ (O : Offer) (packed : Packed O) (a : List ℕ) (m : a ∈ O.lists) where
  pub held : (i : ℕ) → i ≤ 6 → digit i (word_of O.share a) ≡ (market O).holds a i
  held i h = word_bundle O.share a (packed.packs a m) i (omega arith)

  -- who has no bundle is who owns no lot
  holds_none : (i : ℕ) → eqb (bundle_from O.share 0 i a) 0 ≡ lacks i a
  holds_none i =
      same_test _ _
      (λ e. bundle_none O.share packed.shares 0 i a (eqb-true (bundle_from O.share 0 i a) 0 e))
      (λ e. eq-eqb (bundle_from O.share 0 i a) 0 (bundle_lacks O.share 0 i a e))

  pub in_word : (e : ℕ) → e ≤ 6 → (eqb e 0 || eqb (digit e (word_of O.share a)) 0) ≡ (eqb e 0 || lacks e a)
  in_word e h = ap (λ x. eqb e 0 || x) (ap (λ s. eqb s 0) (held e h) ∙ holds_none e)

pub lots_packed : (m n : ℕ) (ws : List ℕ) → m ≤ 6 → n ≤ 4 → Packed (lots_among m n ws)
lots_packed m n ws few short =
    record {
      first = omega arith;
      few = few;
      shares = pow_pos;
      packs = λ a h. lots_pack m n few short h;
      short = λ a h. omega (arith, (allocation_from (zero_first m) n h).0);
    }

-- what the code is lent of a sheet's lots
pub lots_lent : (m n : ℕ) (l ws : List ℕ) (all : ℕ) → m ≤ 6 → n ≤ 4 → Regular (lots_among m n ws) → l ≡ lot_words m n →
    all ≡ 2 ^ n → Lent (lots_among m n ws) l ws 1 m all
lots_lent m n l ws all few short regular words bundles =
    record {
      words = words;
      worths = refl;
      low = refl;
      buyers = refl;
      bundles = bundles;
      packed = lots_packed m n ws few short;
      regular = regular;
    }
