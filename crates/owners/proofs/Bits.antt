-- Each set of bidders has a number, the sum of 2 ^ j over its bidders' rows j, and a proper subset has a lower one
-- (`layout_ranked`). Offers the laws of `number` (`number_bit`, `number_below`, `number_same`, and `number_down` and
-- `number_counted` for a loop that counts down), of demand sets (`demand_bit`, `demand_below`), and that m buyers are
-- laid out (`buyers_laid_out`), with a house too (`house_laid_out`).
use mathlib.Core.Path.{◌≡◌, refl, sym, ap, ◌∙◌}
use mathlib.Core.Bool.{Bool, true, false, ◌&&◌}
use Prim.Native.Nat.{ℕ, zero, suc, ◌+◌, ◌-◌, ◌*◌, ◌/◌, ◌%◌, ◌^◌, ◌≤◌, ◌<◌}
use native.Mathlib.Nat.{zero-add, one-mul, pow-succ'}
use native.Mathlib.Omega.{arith}
use native.Mathlib.Decide.{ℕ_discrete}
use lib.Pow.{pow_mono}
use lib.Dec.{eqb}
use borrow.Author.Tests.{eq-eqb, ne_eqb, eqb-true, eqb-false, lt-ltb, ltb-true}
use Rattle.theory.specs.Sums.{when, sum, Among}
use Rattle.theory.specs.Markets.{Market}
use Rattle.theory.specs.Auction.{Quote, SetsNumbered, Ranked}
use Rattle.theory.proofs.Tests.{by_test, fails, itself, and_means}
use Rattle.numbers.proofs.Subsets.{bit_half}
use Rattle.numbers.specs.Numbers.{bit}
use Rattle.owners.specs.Owners.{number}
use Rattle.owners.specs.Prices.{Layout, LaidOut, bidders, layout, buyer_rows, row_member, demand_set}

pub number_below : (k s : ℕ) (t : ℕ → Bool) → number k s t < 2 ^ k
unfolding number
number_below zero s t = omega arith
number_below (suc k) s t =
    by_test (t s) (λ e. rw e (omega (arith, number_below k (suc s) t)))
    (λ e. rw e (omega (arith, number_below k (suc s) t)))

pub half_of : (b : Bool) (y : ℕ) → (when b 1 + 2 * y) / 2 ≡ y
half_of true y = omega arith
half_of false y = omega arith

pub low_bit : (b : Bool) (y : ℕ) → bit 0 (when b 1 + 2 * y) ≡ b
low_bit true y = eq-eqb ((1 + 2 * y) / 1 % 2) 1 (omega arith)
low_bit false y = ne_eqb ((0 + 2 * y) / 1 % 2) 1 (λ q. omega arith)

pub number_bit : (k s : ℕ) (t : ℕ → Bool) (j : ℕ) → j < k → bit j (number k s t) ≡ t (s + j)
unfolding number
number_bit zero s t j h = absurd (omega arith)
number_bit (suc k) s t zero h = low_bit (t s) (number k (suc s) t) ∙ ap t (omega arith)
number_bit (suc k) s t (suc j) h =
    bit_half j (when (t s) 1 + 2 * number k (suc s) t) ∙ ap (bit j) (half_of (t s) (number k (suc s) t))
    ∙ number_bit k (suc s) t j (omega arith) ∙ ap t (omega arith)

pub number_small : (k s : ℕ) (t : ℕ → Bool) → k ≤ 6 → number k s t < 64
number_small k s t h = omega (arith, number_below k s t, pow_mono {i = k} {j = 6} h)

pub number_same : (k s : ℕ) (t u : ℕ → Bool) → ((i : ℕ) → Among k s i → t i ≡ u i) → number k s t ≡ number k s u
unfolding number
number_same zero s t u h = refl
number_same (suc k) s t u h = rw (h s (omega arith), number_same k (suc s) t u (λ i r. h i (omega arith)))

-- a number of some of 1 to m, of which those above i are in n
pub number_down : (m i n : ℕ) (t : ℕ → Bool) → 1 ≤ i → i ≤ m → n ≡ number (m - i) (suc i) t →
    when (t i) 1 + 2 * n ≡ number (m - (i - 1)) (suc (i - 1)) t
unfolding number
number_down m i n t lo hi e =
    let a : m - (i - 1) ≡ suc (m - i) = omega arith in
    let b : suc (i - 1) ≡ i = omega arith in
    rw (a, b, e)

-- a loop that takes them in from m down to 1, and whose value is n i once those above i are in
pub number_counted : (m : ℕ) (t : ℕ → Bool) (n : ℕ → ℕ) → n m ≡ 0 →
    ((i : ℕ) → 1 ≤ i → i ≤ m → n (i - 1) ≡ when (t i) 1 + 2 * n i) →
    (k : ℕ) → k ≤ m → n (m - k) ≡ number k (suc (m - k)) t
unfolding number
number_counted m t n start step zero h = let all : m - 0 ≡ m = omega arith in ap n all ∙ start
number_counted m t n start step (suc k) h =
    let i = m - k in
    let below : m - suc k ≡ i - 1 = omega arith in
    let left : m - i ≡ k = omega arith in
    let above : m - (i - 1) ≡ suc k = omega arith in
    let so_far : n i ≡ number (m - i) (suc i) t = rw left (number_counted m t n start step k (omega arith)) in
    let lo : 1 ≤ i = omega arith in
    let hi : i ≤ m = omega arith in
    rw below (step i lo hi ∙ rw above at (number_down m i (n i) t lo hi so_far))

-- no number with all these bits is lower
number_under : (k s : ℕ) (t : ℕ → Bool) (x : ℕ) → ((j : ℕ) → j < k → t (s + j) ≡ true → bit j x ≡ true) → number k s t
    ≤ x
unfolding number
number_under zero s t x h = omega arith
number_under (suc k) s t x h =
    let half = number_under k (suc s) t (x / 2)
    (λ j l p. sym (bit_half j x) ∙ h (suc j) (omega arith) (ap t (omega arith) ∙ p)) in
    by_test (t s)
    (λ p. let odd : x / 1 % 2
    ≡ 1 = eqb-true (x / 1 % 2) 1 (h 0 (omega arith) (ap t (omega arith) ∙ p)) in rw p (omega arith))
    (λ p. rw p (omega arith))

-- the numbering by rows
module _ {A : Type 0} (M : Market A) (L : Layout) (bits : ℕ) (laid_out : LaidOut L M.many M.low bits) where
  pub layout_ranked : Ranked M (row_member L) (2 ^ bits)
  layout_ranked t =
      let u : ℕ → Bool = λ j. L.taken j && t (L.bidder_at j) in
      let n = number bits 0 u in
      let same : (i : ℕ) → Among M.many M.low i → bit (L.row_of i) n ≡ t i =
      λ i r. let (l, p, back) = laid_out.each_bidder i r in
      number_bit bits 0 u (L.row_of i) l ∙ rw (zero-add, p, back) in (
        n,
        number_below bits 0 u,
        same,
        λ k beneath.
            let (i, r, has, lacks) = beneath.short in
            let under : n ≤ k = number_under bits 0 u k (λ j l p.
            let (taken, on) =
            (and_means (itself (L.taken j)) (itself (t (L.bidder_at j)))).0 (ap u (omega arith) ∙ p) in
            let (r, e) = laid_out.each_row j taken in
            ap (λ j. bit j k) (sym e) ∙ beneath.inside (L.bidder_at j) r on) in
            elim (ℕ_discrete n k) [
              | yes e ↦ fails has
                  (ap (bit (L.row_of i)) (sym e) ∙ same i r ∙ lacks)
              | no e ↦ omega arith
            ],
      )

pub ranked_numbered : {A : Type 0} (M : Market A) (member : ℕ → ℕ → Bool) (sets : ℕ) → Ranked M member sets →
    SetsNumbered M member sets
ranked_numbered M member sets ranked t = let (n, l, same, _) = ranked t in (n, l, same)

-- sets have as many bits as there are bidders, or up to six
pub buyers_laid_out : (m bits : ℕ) → m ≤ bits → bits ≤ 6 → LaidOut (buyer_rows m) m 1 bits
buyers_laid_out m bits more few =
    record {
      enough = few;
      each_bidder = λ i r. (omega arith, lt-ltb (i - 1) m (omega arith), omega arith);
      each_row = λ j p. (omega (arith, ltb-true j m p), omega arith);
    }

-- with a house sets have seven bits, of which it has the last
pub house_laid_out : (m : ℕ) → m ≤ 6 → LaidOut (layout 0 m) (bidders 0 m) 0 7
house_laid_out m few =
    record {
      enough = omega arith;
      each_bidder = λ i r.
          by_test (eqb i 0)
          (λ e. rw e (omega arith, refl, omega (arith, eqb-true i 0 e)))
          (λ e.
          let some : 1 ≤ i = omega (arith, eqb-false i 0 e) in
          rw (e, ne_eqb (i - 1) 6 (λ z. omega arith)) (omega arith, lt-ltb (i - 1) m (omega arith), omega arith));
      each_row = λ j p.
          by_test (eqb j 6)
          (λ e. rw e (omega arith, omega (arith, eqb-true j 6 e)))
          (λ e.
          let l = ltb-true j m (rw e at p) in
          rw e (omega arith, rw (ne_eqb (suc j) 0 (λ z. omega arith)) (omega arith)));
    }

-- a sum of powers of two is the number that has them as its bits
sum_number : (k s : ℕ) (t : ℕ → Bool) → sum k s (λ j. when (t j) (2 ^ j)) ≡ 2 ^ s * number k s t
unfolding number
sum_number zero s t = omega arith
sum_number (suc k) s t =
    by_test (t s)
    (λ e. rw e (omega (arith, rw pow-succ' at (sum_number k (suc s) t))))
    (λ e. rw e (omega (arith, rw pow-succ' at (sum_number k (suc s) t))))

-- a demand set's bits are the bundles that are demanded
module _ (all : ℕ) (q : Quote) (i : ℕ) where
  demand_number : demand_set all q i ≡ number all 0 (q.wants i)
  demand_number = sum_number all 0 (q.wants i) ∙ one-mul (number all 0 (q.wants i))

  pub demand_bit : (s : ℕ) → s < all → bit s (demand_set all q i) ≡ q.wants i s
  demand_bit s h = ap (bit s) demand_number ∙ number_bit all 0 (q.wants i) s h ∙ ap (q.wants i) (zero-add s)

  pub demand_below : demand_set all q i < 2 ^ all
  demand_below = omega (arith, demand_number, number_below all 0 (q.wants i))
