-- Laws of loops: over the bidders (`bidders-sum`; `each_total` where all have one bundle), over the buyers that own
-- something (`holders_are`), over words into the values of sets (`value_raised`), over economies (`raised_to`), and over
-- words into the greatest totals of all economies (`Reached`).
use mathlib.Core.Path.{◌≡◌, refl, sym, ap, ◌∙◌}
use mathlib.Core.Bool.{Bool}
use mathlib.Core.List.{List}
use Prim.Native.Nat.{ℕ, zero, suc, max, ◌+◌, ◌-◌, ◌*◌, ◌^◌, ◌≤◌, ◌<◌}
use native.Mathlib.Decide.{ℕ_discrete, dec_le}
use native.Mathlib.Nat.{pow-zero, pow-succ'}
use native.Mathlib.Omega.{arith}
use lib.Dec.{eqb}
use lib.ListN.{length, drop, get_or, set}
use lib.Seq.{get_or-set_same, get_or-set_other}
use borrow.Author.Tests.{eq-eqb, ne_eqb, eqb-true, eqb-false}
use Rattle.theory.specs.Sums.{when, sum}
use Rattle.theory.specs.Lists.{most}
use Rattle.theory.specs.Coalitions.{holder}
use Rattle.theory.specs.Tests.{every}
use Rattle.theory.proofs.Sums.{sum_same}
use Rattle.theory.proofs.Tests.{by_test, itself, every_means}
use Rattle.theory.proofs.Loops.{most_next, most-over}
use Rattle.numbers.specs.Numbers.{Is}
use Rattle.owners.specs.Owners.{number}
use Rattle.owners.specs.Prices.{bidders, entry}
use Rattle.owners.specs.Singles.{AtMost}
use Rattle.owners.proofs.Bits.{number_small}
use Rattle.lists.specs.Words.{digit, word_market}
use Rattle.totals.specs.Totals.{word_total, word_in, word_total_in, word_holders, word_total_by, limit_by}

-- the bidders from `low` on
pub bidders-count : (low m : ℕ) → low ≤ 1 → m + 1 - low ≡ bidders low m
bidders-count low m h =
    by_test (eqb low 0) (λ e. rw e (omega (arith, eqb-true low 0 e))) (λ e. rw e (omega (arith, eqb-false low 0 e)))

pub bidders-sum : (low m : ℕ) (f : ℕ → ℕ) → low ≤ 1 → sum (m + 1 - low) low f ≡ sum (bidders low m) low f
bidders-sum low m f h = ap (λ n. sum n low f) (bidders-count low m h)

-- the word in which each bidder has the same bundle; bundles are tried out
each_digit : (s i : ℕ) → s < 16 → i < 7 → digit i (s * 17895697) ≡ s
each_digit s i h l =
    let same : ℕ → ℕ → Bool = λ s i. eqb (digit i (s * 17895697)) s in
    eqb-true (digit i (s * 17895697)) s
    ((every_means 7 0 (λ i r. itself (same s i))).0
    ((every_means 16 0 (λ s r. itself (every 7 0 (same s)))).0 refl s (omega arith)) i (omega arith))

pub each_total : (low m all : ℕ) (t : List ℕ) → low ≤ 1 → m ≤ 6 → all ≤ 16 →
    word_total low m t ((all - 1) * 17895697) ≡ limit_by low m all t
each_total low m all t first few short =
    sum_same (bidders low m) low _ _
    (λ i r. ap (entry t i) (each_digit (all - 1) i (omega arith) (omega (arith, bidders-count low m first))))

-- the number of a set of buyers, as the sum of their powers of two
powers_from : (k j : ℕ) (t : ℕ → Bool) → sum k j (λ i. when (t (suc i)) (2 ^ i)) ≡ 2 ^ j * number k (suc j) t
unfolding number
powers_from zero j t = omega arith
powers_from (suc k) j t =
    by_test (t (suc j))
    (λ e. rw (e, powers_from k (suc j) t, pow-succ' 2 j) (omega arith))
    (λ e. rw (e, powers_from k (suc j) t, pow-succ' 2 j) (omega arith))

module _ (m w : ℕ) where
  pub holders_are : sum m 0 (λ j. when (holder (word_market 1 m) w (suc j)) (2 ^ j)) ≡ word_holders m w
  holders_are = omega (arith, powers_from m 0 (holder (word_market 1 m) w), pow-zero)

  pub holders_small : m ≤ 6 → word_holders m w < 64
  holders_small h = number_small m 1 (holder (word_market 1 m) w) h

-- one word taken into the values: its holders' number is `at`, and its total `total`
module _ (low m : ℕ) (ws l vs : List ℕ) (k at total n T : ℕ) (h : k < length l)
    (ea : at ≡ word_holders m (get_or l k 0)) (et : total ≡ word_total low m ws (get_or l k 0))
    (inv : max (get_or vs n 0) (most (word_total_by low m ws n) (drop k l)) ≡ T) where
  taken_in : (v : ℕ) → v ≡ max (get_or vs n 0) (when (eqb at n) total) →
      max v (most (word_total_by low m ws n) (drop (k + 1) l)) ≡ T
  taken_in v e = most_next l k h (word_total_by low m ws n) (get_or vs n 0) v T inv (e ∙ rw (ea, et) refl)

  pub value_raised : at < length vs → (v : ℕ) → v ≡ max (get_or vs at 0) total →
      max (get_or (set vs at v) n 0) (most (word_total_by low m ws n) (drop (k + 1) l)) ≡ T
  value_raised r v e =
      taken_in _
      (elim (ℕ_discrete at n) [
        | yes q ↦ rw (← q, eq-eqb at at refl, get_or-set_same vs at v 0 r) e
        | no q ↦ rw (ne_eqb at n q, get_or-set_other vs at n v 0 (λ z. q (sym z))) (omega arith)
      ])

-- one word taken into the greatest totals, economy by economy; x is what it counts in economy e
module _ (w total : ℕ) (old : List ℕ) where
  abbrev pub raised_to : ℕ → ℕ → Type 0
  raised_to e v = v ≡ max (get_or old e 0) (when (word_in e w) total)

-- the greatest totals of the first k words
module _ (low m : ℕ) (t l : List ℕ) where
  pub record Reached (k : ℕ) (gs : List ℕ) : Type 0 where
    pub long : length gs ≡ 7
    pub small : (e : ℕ) → get_or gs e 0 ≤ 458745
    pub so_far : (e : ℕ) → e ≤ m →
        max (get_or gs e 0) (most (word_total_in low m t e) (drop k l)) ≡ most (word_total_in low m t e) l
    pub past : (e : ℕ) → m < e → get_or gs e 0 ≡ 0

  pub reached_none : (gs : List ℕ) → length gs ≡ 7 → ((e : ℕ) → get_or gs e 0 ≡ 0) → Reached 0 gs
  reached_none gs long z =
      record {
        long = long;
        small = λ e. omega (arith, z e);
        so_far = λ e h. omega (arith, z e);
        past = λ e h. z e;
      }

  module _ (k : ℕ) (gs : List ℕ) (g : Reached k gs) where
    pub reached_more : k < length l → (total : ℕ) → total ≡ word_total low m t (get_or l k 0) → total ≤ 458745 →
        (new : List ℕ) → length new ≡ 7 → ((e : ℕ) → e ≤ m → raised_to (get_or l k 0) total gs e (get_or new e 0)) →
        ((e : ℕ) → m < e → get_or new e 0 ≡ get_or gs e 0) → Reached (k + 1) new
    reached_more h total et lt new long done rest =
        record {
          long = long;
          small = λ e. elim (dec_le e m) [
            | yes q ↦ by_test (word_in e (get_or l k 0)) (λ b. omega (arith, g.small e, rw b at (done e q)))
                (λ b. omega (arith, g.small e, rw b at (done e q)))
            | no q ↦ omega (arith, g.small e, rest e (omega arith))
          ];
          so_far = λ e q. most_next l k h (word_total_in low m t e) (get_or gs e 0) (get_or new e 0) _ (g.so_far e q)
              (done e q ∙ rw et refl);
          past = λ e q. rest e q ∙ g.past e q;
        }

    pub reached_all : length l ≤ k → (e : ℕ) → e ≤ m → Is (most (word_total_in low m t e) l) (get_or gs e 0) 458745
    reached_all h e q =
        record {
          is = most-over l k h (word_total_in low m t e) (get_or gs e 0) _ (g.so_far e q);
          most = g.small e;
        }

-- greatest totals are small, also at the places past the last buyer
pub greatest_small : (m c : ℕ) (l : List ℕ) (f : ℕ → ℕ) → ((e : ℕ) → e ≤ m → Is (f e) (get_or l e 0) c) →
    ((e : ℕ) → m < e → get_or l e 0 ≡ 0) → AtMost c l
greatest_small m c l f some none e =
    elim (dec_le e m) [ yes h ↦ (some e h).most | no h ↦ omega (arith, none e (omega arith)) ]
