-- Words of 64 bits as sets of sets. Offers the bits of words that two others make (`bit_or_lem`, `bit_and_lem`), the
-- lowest set of one word that another lacks (`lowest_missing`, `none_missing`), the words of subsets (`table_subsets`),
-- and which sets are inside an economy and covered by another set there (`inside_but`, `covers_all`, `covers_but`).
-- Numbers below 64 are tried out.
use mathlib.Core.Path.{◌≡◌, refl, sym, ap, ◌∙◌}
use mathlib.Core.Bool.{Bool, true, false, not, ◌&&◌, ◌||◌}
use mathlib.Core.List.{List, [], ◌∷◌}
use mathlib.Core.Logic.{inr}
use Prim.Native.Nat.{ℕ, zero, suc, max, min, ◌+◌, ◌-◌, ◌/◌, ◌%◌, ◌^◌, ◌≤◌, ◌<◌}
use native.Mathlib.Nat.{div-eq_of_lt}
use native.Mathlib.Omega.{arith}
use native.Mathlib.Decide.{ℕ_discrete, dec_le}
use lib.Dec.{eqb, ltb}
use lib.Bits.{bit_and, bit_or, and_step, or_step, and_shr, or_shr}
use lib.ListN.{get_or}
use lib.Pow.{pow_pos, pow_mono}
use borrow.Author.Tests.{eq-eqb, ne_eqb, ltb-true, not-true}
use Rattle.theory.specs.Sums.{Among}
use Rattle.std.specs.Int.{bit_at, bit_not, trailing_zeros, w64}
use Rattle.std.specs.Int.Count.{trailing_of_zero}
use Rattle.std.proofs.lemmas.Nat.Bits.{bit_at_not, bit_at-lt, bit_at-zero, bit_at-trailing_zeros}
use Rattle.std.proofs.lemmas.Nat.{and_le_l}
use Rattle.theory.specs.Tests.{every, least}
use Rattle.theory.specs.Coalitions.{inside, covers}
use Rattle.theory.proofs.Tests.{by_test, same_test, fails, itself, Means, means_via, imp_means, and_means, or_means}
use Rattle.theory.proofs.Tests.{every_means, not_means, eqb_means, Least}
use Rattle.numbers.specs.Numbers.{bit}
use Rattle.owners.specs.Owners.{member}
use Rattle.owners.specs.Quick.{present_in, roster}
use Rattle.supply.specs.Supply.{among, Word}

-- a bit of a word that two others make
max-bit : (x y : ℕ) → x < 2 → y < 2 → eqb (max x y) 1 ≡ (eqb x 1 || eqb y 1)
max-bit zero zero h l = refl
max-bit zero (suc zero) h l = refl
max-bit (suc zero) zero h l = refl
max-bit (suc zero) (suc zero) h l = refl
max-bit (suc (suc x)) y h l = absurd (omega arith)
max-bit zero (suc (suc y)) h l = absurd (omega arith)
max-bit (suc zero) (suc (suc y)) h l = absurd (omega arith)

min-bit : (x y : ℕ) → x < 2 → y < 2 → eqb (min x y) 1 ≡ (eqb x 1 && eqb y 1)
min-bit zero zero h l = refl
min-bit zero (suc zero) h l = refl
min-bit (suc zero) zero h l = refl
min-bit (suc zero) (suc zero) h l = refl
min-bit (suc (suc x)) y h l = absurd (omega arith)
min-bit zero (suc (suc y)) h l = absurd (omega arith)
min-bit (suc zero) (suc (suc y)) h l = absurd (omega arith)

pub bit_or_lem : (n a b : ℕ) → bit n (bit_or a b) ≡ (bit n a || bit n b)
bit_or_lem n a b =
    let e : bit_or (a / 2 ^ n) (b / 2 ^ n) % 2
    ≡ max (a / 2 ^ n % 2) (b / 2 ^ n % 2) = omega (arith, or_step (a / 2 ^ n) (b / 2 ^ n)) in
    rw (or_shr a b n, e) (max-bit (a / 2 ^ n % 2) (b / 2 ^ n % 2) (omega arith) (omega arith))

pub bit_and_lem : (n a b : ℕ) → bit n (bit_and a b) ≡ (bit n a && bit n b)
bit_and_lem n a b =
    let e : bit_and (a / 2 ^ n) (b / 2 ^ n) % 2
    ≡ min (a / 2 ^ n % 2) (b / 2 ^ n % 2) = omega (arith, and_step (a / 2 ^ n) (b / 2 ^ n)) in
    rw (and_shr a b n, e) (min-bit (a / 2 ^ n % 2) (b / 2 ^ n % 2) (omega arith) (omega arith))

pub bit_zero : (n : ℕ) → bit n 0 ≡ false
bit_zero n = let z : 0 / 2 ^ n ≡ 0 = div-eq_of_lt (omega (arith, pow_pos n)) in rw z

-- a bit of the other side of a word
flipped : (x : ℕ) → x < 2 → eqb (1 - x) 1 ≡ not (eqb x 1)
flipped zero h = refl
flipped (suc zero) h = refl
flipped (suc (suc x)) h = absurd (omega arith)

-- the bits of a word that another lacks
pub missing_bit : (n a b : ℕ) → b < 2 ^ 64 → n < 64 → bit n (bit_and a (bit_not w64 b)) ≡ (bit n a && not (bit n b))
missing_bit n a b hb hn =
    let e : bit n (bit_not w64 b) ≡ not (bit n b) =
    ap (λ x. eqb x 1) (bit_at_not w64 b n hb hn) ∙ flipped (bit_at b n) (bit_at-lt b n) in
    bit_and_lem n a (bit_not w64 b) ∙ rw e

-- what `least` answers where one passes, and where none does
pub least_is : (k s : ℕ) (t : ℕ → Bool) (n : ℕ) → Least k s t n → least k s t ≡ suc n
least_is zero s t n h = let in_none = h.among in absurd (omega arith)
least_is (suc k) s t n h =
    let in_range = h.among in
    elim (ℕ_discrete s n) [
      | yes e ↦ rw (e, h.passes)
      | no d ↦ rw (h.before s (omega arith) (omega arith))
          (least_is k (suc s) t n (record {
            among = omega arith;
            passes = h.passes;
            before = λ i l u. h.before i (omega arith) u;
          }))
    ]

pub least_zero : (k s : ℕ) (t : ℕ → Bool) → ((i : ℕ) → Among k s i → t i ≡ false) → least k s t ≡ 0
least_zero zero s t f = refl
least_zero (suc k) s t f = rw (f s (omega arith)) (least_zero k (suc s) t (λ i r. f i (omega arith)))

-- the lowest set of a word that another lacks, by the place of the lowest bit
module _ (a b sets : ℕ) (ha : a < 2 ^ 64) (hb : b < 2 ^ 64) (hs : sets ≤ 64) where
  abbrev pub missing : ℕ → Bool
  missing n = bit n a && not (bit n b)

  abbrev rest : ℕ
  rest = bit_and a (bit_not w64 b)

  lowest_bit : 0 < rest → (trailing_zeros w64 rest < 64) × (bit_at rest (trailing_zeros w64 rest) ≡ 1)
      × ((i : ℕ) → i < trailing_zeros w64 rest → bit_at rest i ≡ 0)
  lowest_bit h = bit_at-trailing_zeros w64 rest h (omega (arith, and_le_l a (bit_not w64 b)))

  pub lowest_missing : trailing_zeros w64 rest < sets → least sets 0 missing ≡ suc (trailing_zeros w64 rest)
  lowest_missing h =
      elim (ℕ_discrete rest 0) [
        | yes e ↦ let z : trailing_zeros w64 rest ≡ 64 = rw e (trailing_of_zero 64) in absurd (omega arith)
        | no d ↦ let l = lowest_bit (omega arith) in
            least_is sets 0 missing (trailing_zeros w64 rest) (record {
              among = omega arith;
              passes = sym (missing_bit _ a b hb l.0) ∙ ap (λ x. eqb x 1) l.1;
              before = λ i _ u. sym (missing_bit i a b hb (omega arith)) ∙ ap (λ x. eqb x 1) (l.2 i u);
            })
      ]

  pub none_missing : sets ≤ trailing_zeros w64 rest → least sets 0 missing ≡ 0
  none_missing h =
      least_zero sets 0 missing (λ i r. sym (missing_bit i a b hb (omega arith)) ∙
      elim (ℕ_discrete rest 0) [
        | yes e ↦ rw e (ap (λ x. eqb x 1) (bit_at-zero i))
        | no d ↦ ap (λ x. eqb x 1) ((lowest_bit (omega arith)).2 i (omega arith))
      ])

-- laws of numbers below 64, by computing
abbrev pub alike : Bool → Bool → Bool
alike true y = y
alike false y = not y

pub alike_same : (x y : Bool) → alike x y ≡ true → x ≡ y
alike_same true y h = sym h
alike_same false true h = h
alike_same false false h = refl

-- what passes for every k below a and d below b
pub tried : (a b : ℕ) (t : ℕ → ℕ → Bool) → every a 0 (λ k. every b 0 (t k)) ≡ true → (k d : ℕ) → k < a → d < b →
    t k d ≡ true
tried a b t all k d h l =
    (every_means b 0 (λ d r. itself (t k d))).0
    ((every_means a 0 (λ k r. itself (every b 0 (t k)))).0 all k (omega arith)) d (omega arith)

pub bit_ones : (n : ℕ) → n < 64 → bit n 18446744073709551615 ≡ true
bit_ones n h = tried 1 64 (λ _ n. bit n 18446744073709551615) refl 0 n (omega arith) h

-- one member more
pub bit_room : (k d : ℕ) → k < 64 → d < 6 → bit d k ≡ false → k + 2 ^ d < 64
bit_room k d h l f = ltb-true (k + 2 ^ d) 64 (rw f at (tried 64 6 (λ k d. bit d k || ltb (k + 2 ^ d) 64) refl k d h l))

abbrev joins : ℕ → ℕ → Bool
joins k d = bit d k || every 6 0 (λ j. alike (bit j (k + 2 ^ d)) (eqb j d || bit j k))

pub bit_more : (k d j : ℕ) → k < 64 → d < 6 → j < 6 → bit d k ≡ false → bit j (k + 2 ^ d) ≡ (eqb j d || bit j k)
bit_more k d j h l q f =
    alike_same (bit j (k + 2 ^ d)) (eqb j d || bit j k)
    ((every_means 6 0 (λ j r. itself (alike (bit j (k + 2 ^ d)) (eqb j d || bit j k)))).0
    (rw f at (tried 64 6 joins refl k d h l)) j (omega arith))

-- the words of the sets of a set's members
abbrev table : List ℕ
table =
    1 ∷ 3 ∷ 5 ∷ 15 ∷ 17 ∷ 51 ∷ 85 ∷ 255 ∷ 257 ∷ 771 ∷ 1285 ∷ 3855 ∷ 4369 ∷ 13107 ∷ 21845 ∷ 65535 ∷ 65537 ∷ 196611 ∷
    327685 ∷ 983055 ∷ 1114129 ∷ 3342387 ∷ 5570645 ∷ 16711935 ∷ 16843009 ∷ 50529027 ∷ 84215045 ∷ 252645135 ∷ 286331153 ∷
    858993459 ∷ 1431655765 ∷ 4294967295 ∷ 4294967297 ∷ 12884901891 ∷ 21474836485 ∷ 64424509455 ∷ 73014444049 ∷
    219043332147 ∷ 365072220245 ∷ 1095216660735 ∷ 1103806595329 ∷ 3311419785987 ∷ 5519032976645 ∷ 16557098929935 ∷
    18764712120593 ∷ 56294136361779 ∷ 93823560602965 ∷ 281470681808895 ∷ 281479271743489 ∷ 844437815230467 ∷
    1407396358717445 ∷ 4222189076152335 ∷ 4785147619639313 ∷ 14355442858917939 ∷ 23925738098196565 ∷ 71777214294589695 ∷
    72340172838076673 ∷ 217020518514230019 ∷ 361700864190383365 ∷ 1085102592571150095 ∷ 1229782938247303441 ∷
    3689348814741910323 ∷ 6148914691236517205 ∷ 18446744073709551615 ∷ []

pub table_subsets : (k : ℕ) → k < 64 → Word 6 (among 6 k) (get_or table k 0)
table_subsets k h n l =
    alike_same (bit n (get_or table k 0)) (among 6 k n)
    (tried 64 64 (λ k n. alike (bit n (get_or table k 0)) (among 6 k n)) refl k n h (omega arith))

-- a set of some of m bidders has none of the others
bit_high : (m n j : ℕ) → n < 2 ^ m → m ≤ j → bit j n ≡ false
bit_high m n j h l =
    let z : n / 2 ^ j ≡ 0 = div-eq_of_lt (omega (arith, pow_mono {i = m} {j = j} l)) in
    rw z refl

abbrev Subset : ℕ → ℕ → ℕ → Type 0
Subset m k n = (i : ℕ) → Among m 1 i → bit (i - 1) n ≡ true → bit (i - 1) k ≡ true

among_means : (m k n : ℕ) → Means (among m k n) (Subset m k n)
among_means m k n = every_means m 1 (λ i r. imp_means (itself (bit (i - 1) n)) (itself (bit (i - 1) k)))

pub among_fewer : (m k n : ℕ) → m ≤ 6 → n < 2 ^ m → among 6 k n ≡ among m k n
among_fewer m k n few h =
    same_test (among 6 k n) (among m k n)
    (λ p. (among_means m k n).1 (λ i r. (among_means 6 k n).0 p i (omega arith)))
    (λ p. (among_means 6 k n).1 (λ i r q. by_among m k n h ((among_means m k n).0 p) i r.0 q))
  where
    by_among : (m k n : ℕ) → n < 2 ^ m → Subset m k n → (i : ℕ) → 1 ≤ i → bit (i - 1) n ≡ true → bit (i - 1) k ≡ true
    by_among m k n h f i lo q =
        elim (dec_le i m) [
          | yes l ↦ f i (omega arith) q
          | no l ↦ fails q (bit_high m n (i - 1) h (omega arith))
        ]

-- within an economy
pub inside_all : (m k : ℕ) → true ≡ inside (roster m) (present_in 0) k
inside_all m k = sym ((every_means m 1 (λ i r. imp_means (itself (bit (i - 1) k)) (itself true))).1 (λ i r p. refl))

inside_one : (m d k : ℕ) → d < m → Means (inside (roster m) (present_in (suc d)) k) (bit d k ≡ false)
inside_one m d k h =
    means_via (every_means m 1 (λ i r. imp_means (itself (bit (i - 1) k)) (not_means (eqb_means i (suc d)))))
    (λ f. by_test (bit d k) (λ p. absurd (f (suc d) (omega arith) (ap (λ j. bit j k) (omega arith) ∙ p) refl)) (λ p. p))
    (λ f i r p e. fails p (ap (λ j. bit j k) (omega arith) ∙ f))

pub inside_but : (m e k : ℕ) (b : Bool) → (e ≡ 0 → ⊥) → e ≤ m → b ≡ member k e → not b
    ≡ inside (roster m) (present_in e) k
inside_but m zero k b n h q = absurd (n refl)
inside_but m (suc d) k b n h q =
    let z : suc d - 1 ≡ d = omega arith in
    rw (q, z)
    (same_test (not (bit d k)) (inside (roster m) (present_in (suc d)) k)
    (λ p. (inside_one m d k (omega arith)).1 (not-true (bit d k) p))
    (λ p. ap not ((inside_one m d k (omega arith)).0 p)))

pub inside-bit : (m e k : ℕ) → (e ≡ 0 → ⊥) → e ≤ m → inside (roster m) (present_in e) k ≡ true → bit (e - 1) k ≡ false
inside-bit m zero k n h p = absurd (n refl)
inside-bit m (suc d) k n h p = let z : suc d - 1 ≡ d = omega arith in rw z ((inside_one m d k (omega arith)).0 p)

-- the sets whose members present k has
pub covers_all : (m e k w : ℕ) → e ≡ 0 → m ≤ 6 → k < 2 ^ m → Word 6 (among 6 k) w →
    Word m (λ n. covers (roster m) (present_in e) n k) w
covers_all m e k w z few h word n l =
    rw z (word n (omega (arith, pow_mono {i = m} {j = 6} few)) ∙ among_fewer m k n few l)

module _ (m d k n : ℕ) where
  abbrev Covers : Type 0
  Covers = (i : ℕ) → Among m 1 i → (i ≡ suc d → ⊥) × (bit (i - 1) n ≡ true) → bit (i - 1) k ≡ true

  covers_means : Means (covers (roster m) (present_in (suc d)) n k) Covers
  covers_means =
      every_means m 1 (λ i r. imp_means (and_means (not_means (eqb_means i (suc d))) (itself (bit (i - 1) n)))
      (itself (bit (i - 1) k)))

pub covers_but : (m e k w : ℕ) → m ≤ 6 → k < 2 ^ m → (e ≡ 0 → ⊥) → e ≤ m → inside (roster m) (present_in e) k ≡ true →
    (b : ℕ) → b ≡ 2 ^ (e - 1) → Word 6 (among 6 (k + b)) w → Word m (λ n. covers (roster m) (present_in e) n k) w
covers_but m zero k w few h some le ins b eb word n l = absurd (some refl)
covers_but m (suc d) k w few h some le ins b eb word n l =
    let up = pow_mono {i = m} {j = 6} few in
    let z : suc d - 1 ≡ d = omega arith in
    let lacks : bit d k ≡ false = (inside_one m d k (omega arith)).0 ins in
    let one : (i : ℕ) → Among m 1 i → bit (i - 1) (k + 2 ^ d) ≡ (eqb (i - 1) d || bit (i - 1) k) =
    λ i r. bit_more k d (i - 1) (omega arith) (omega arith) (omega arith) lacks in
    (rw (eb, z) at word) n (omega arith) ∙ among_fewer m (k + 2 ^ d) n few l ∙
    same_test (among m (k + 2 ^ d) n) (covers (roster m) (present_in (suc d)) n k)
    (λ p. (covers_means m d k n).1
    (λ i r q. rw (ne_eqb (i - 1) d (λ y. q.0 (omega arith))) at
    (sym (one i r) ∙ (among_means m (k + 2 ^ d) n).0 p i r q.1)))
    (λ p. (among_means m (k + 2 ^ d) n).1 (λ i r q. one i r ∙
    elim (ℕ_discrete i (suc d)) [
      | yes y ↦ rw (eq-eqb (i - 1) d (omega arith))
      | no y ↦ (or_means (itself (eqb (i - 1) d)) (itself (bit (i - 1) k))).1
          (inr ((covers_means m d k n).0 p i r (y, q)))
    ]))
