-- Single lots of which some may stay unsold, at most four, among at most six buyers. A bundle's bits are the lots that
-- its buyer owns (`bundle_bit`). The lots make a `Setting` (`singles`), for any order of the owners. Assumes worths of
-- which all lots together have the most.
use mathlib.Core.Path.{◌≡◌, refl, ap, ◌∙◌}
use mathlib.Core.Bool.{Bool, true, false}
use mathlib.Core.List.{List, [], ◌∷◌}
use Prim.Native.Nat.{ℕ, zero, suc, ◌+◌, ◌-◌, ◌*◌, ◌^◌, ◌≤◌, ◌<◌}
use native.Mathlib.Nat.{add-zero, zero-add, pow-succ'}
use native.Mathlib.Omega.{arith}
use lib.Dec.{eqb}
use lib.ListN.{length, get_or}
use lib.Pow.{pow_pos, pow_mono}
use Rattle.theory.specs.Sums.{when, sum, Among}
use Rattle.theory.specs.Lists.{◌∈◌, keep}
use Rattle.theory.specs.Markets.{Table}
use Rattle.theory.specs.Auction.{Auction, Marginal, whole}
use Rattle.theory.proofs.Tests.{by_test}
use Rattle.theory.proofs.Sums.{sum_mono, sum_const}
use Rattle.theory.proofs.Lists.{keep_from}
use Rattle.numbers.specs.Numbers.{bit}
use Rattle.numbers.proofs.Subsets.{bit_half}
use Rattle.owners.specs.Owners.{allocations, bundle_from, lacks, market, single, auction_of, member}
use Rattle.owners.specs.Prices.{buyer_rows}
use Rattle.owners.specs.Sales.{Valuations, Setting}
use Rattle.owners.specs.Singles.{worth_table, AtMost}
use Rattle.owners.proofs.Owners.{allocation_from}
use Rattle.owners.proofs.Bits.{half_of, low_bit, layout_ranked, ranked_numbered, buyers_laid_out}
use Rattle.owners.proofs.Economies.{economies_part, whole_in, lacking_in}
use Rattle.owners.proofs.Ready.{sounds, leaves}

-- bundles of single lots are below 2 ^ n
bundle_below : (j i : ℕ) (a : List ℕ) → bundle_from single j i a + 2 ^ j ≤ 2 ^ (j + length a)
bundle_below j i [] = omega (arith, ap single (add-zero j))
bundle_below j i (o ∷ a) =
    let e : j + suc (length a) ≡ suc j + length a = omega arith in
    rw e (by_test (eqb o i) (λ p. rw p (omega (arith, bundle_below (suc j) i a)))
    (λ p. rw p (omega (arith, bundle_below (suc j) i a))))

pub singles_below : (n i : ℕ) (a : List ℕ) → length a ≡ n → bundle_from single 0 i a < 2 ^ n
singles_below n i a l = omega (arith, bundle_below 0 i a, ap single (zero-add (length a) ∙ l))

-- a bundle's bits are the lots that its buyer owns: the first lot's, and twice the bundle of the others
twice : (t : Bool) (j x y : ℕ) → x ≡ 2 * y → when t (2 ^ suc j) + x ≡ 2 * (when t (2 ^ j) + y)
twice true j x y e = rw (pow-succ' 2 j) (omega arith)
twice false j x y e = omega arith

pub bundle_shift : (j i : ℕ) (a : List ℕ) → bundle_from single (suc j) i a ≡ 2 * bundle_from single j i a
bundle_shift j i [] = refl
bundle_shift j i (o ∷ a) =
    twice (eqb o i) j (bundle_from single (suc (suc j)) i a) (bundle_from single (suc j) i a) (bundle_shift (suc j) i a)

pub bundle_first : (i o : ℕ) (a : List ℕ) →
    bundle_from single 0 i (o ∷ a) ≡ when (eqb o i) 1 + 2 * bundle_from single 0 i a
bundle_first i o a = ap (λ x. when (eqb o i) 1 + x) (bundle_shift 0 i a)

pub bundle_bit : (i : ℕ) (a : List ℕ) (k : ℕ) → k < length a → bit k (bundle_from single 0 i a) ≡ eqb (get_or a k 0) i
bundle_bit i [] k h = absurd (omega arith)
bundle_bit i (o ∷ a) zero h = ap (bit 0) (bundle_first i o a) ∙ low_bit (eqb o i) (bundle_from single 0 i a)
bundle_bit i (o ∷ a) (suc k) h =
    ap (bit (suc k)) (bundle_first i o a) ∙ bit_half k (when (eqb o i) 1 + 2 * bundle_from single 0 i a)
    ∙ ap (bit k) (half_of (eqb o i) (bundle_from single 0 i a)) ∙ bundle_bit i a k (omega arith)

module _ (m n : ℕ) (few : m ≤ 6) (short : n ≤ 4) (os : List ℕ) (unsold : 0 ∈ os) where
  abbrev X : Auction (List ℕ)
  X = auction_of m (allocations os n) single (2 ^ n - 1)

  abbrev al : List (List ℕ)
  al = allocations os n

  pub singles : Setting X (buyer_rows m) (2 ^ n) m al
  singles =
      let laid_out = buyers_laid_out m m (omega arith) few in
      let ranked = layout_ranked (market m single) (buyer_rows m) m laid_out in
      let sound = sounds m n os unsold single (2 ^ n - 1) in
      record {
        ready = record { sound = sound; numbered = ranked_numbered (market m single) member (2 ^ m) ranked };
        ranked = ranked;
        laid_out = laid_out;
        small = pow_mono {i = n} {j = 4} short;
        topped = omega (arith, pow_pos n);
        bundled = λ a h i r. singles_below n i a (allocation_from os n h).0;
        someone = (sound (whole al) (whole_in m al)).one;
        part = economies_part m al single pow_pos;
        everybody = whole_in m al;
      }

  pub singles_buyer : (i : ℕ) → Among m 1 i → Marginal X al i (keep (lacks i) al)
  singles_buyer i r =
      record {
        leaving =
            record {
              bidder = r;
              leaves = leaves m n os unsold single (2 ^ n - 1) i r;
              fewer = λ a h. (keep_from
                  (lacks i) al h).0;
            };
        others = lacking_in m al i r;
      }

  -- worths of which the empty bundle has none and all lots the most
  pub singles_worths : (v : Table) → ((i : ℕ) → Among m 1 i → v i 0 ≡ 0) →
      ((i : ℕ) → Among m 1 i → (s : ℕ) → s < 2 ^ n → v i s ≤ v i (2 ^ n - 1)) → Valuations X (buyer_rows m) (2 ^ n) v
  singles_worths v free topmost =
      record { proper = record { monotone = λ i r s u e. omega (arith, ap (v i) e); free = free }; topmost = topmost }

-- worths up to c
pub worth_small : (ws : List ℕ) (c i s : ℕ) → AtMost c ws → worth_table ws i s ≤ c
worth_small ws c i s h = by_test (eqb s 0) (λ e. rw e (omega arith)) (λ e. rw e (h (16 * (i - 1) + s)))

-- so much at most are bundles worth, one to each of six buyers
pub sum_small : (m : ℕ) (s : ℕ → ℕ) → m ≤ 6 → (ws : List ℕ) → AtMost 9999 ws →
    sum m 1 (λ i. worth_table ws i (s i)) ≤ 59994
sum_small m s few ws small =
    omega (
      arith,
      sum_const m 1 9999,
      sum_mono m 1 (λ i. worth_table ws i (s i)) (λ _. 9999) (λ i r. worth_small ws 9999 i (s i) small),
    )
