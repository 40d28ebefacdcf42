-- The lowest undersupplied set by coalition values, step by step: payoffs of a set (`pay_in`), the greatest gain
-- (`best_rises`), the sets that are supplied in each economy by one set (`joins_more`) and by all (`scan_more`) and in
-- all economies (`every_more`), the keen buyers (`keen_in`). `words-lowest` puts the steps together.
use mathlib.Core.Path.{◌≡◌, refl, sym, ap, ◌∙◌}
use mathlib.Core.Bool.{Bool, true, false, not, ◌&&◌, ◌||◌, and-true, and-false, or-false}
use mathlib.Core.List.{List}
use Prim.Native.Nat.{ℕ, zero, suc, max, ◌+◌, ◌-◌, ◌*◌, ◌^◌, ◌≤◌, ◌<◌}
use native.Mathlib.Nat.{sub-zero, pow-succ'}
use native.Mathlib.Numerals.{add-one}
use native.Mathlib.Omega.{arith}
use native.Mathlib.Decide.{ℕ_discrete}
use lib.Dec.{leb}
use lib.Bits.{bit_and, bit_or}
use lib.ListN.{get_or, set}
use lib.Pow.{pow_mono}
use borrow.Author.Tests.{eq-eqb, ne_eqb, le-leb, lt-leb}
use Rattle.theory.specs.Sums.{when}
use Rattle.theory.specs.Lists.{up_to}
use Rattle.theory.specs.Tests.{every, some, least, ◌⊃◌}
use Rattle.theory.specs.Markets.{only}
use Rattle.theory.specs.Coalitions.{inside, covers}
use Rattle.theory.proofs.Tests.{by_test, least_same, every_same}
use Rattle.theory.proofs.Loops.{some_more, some_done, Revised, revised_set, revised_skip}
use Rattle.numbers.specs.Numbers.{bit}
use Rattle.owners.specs.Owners.{member, number}
use Rattle.owners.specs.Quick.{present_in, roster}
use Rattle.owners.proofs.Bits.{number_bit, number_small}
use Rattle.supply.specs.Supply.{at, payoff_at, Under, reaches, reached, among, Word, Joined, Joins, Supplied}
use Rattle.supply.specs.Supply.{KeenBuyers, lowest_in}
use Rattle.supply.proofs.Words.{bit_or_lem, bit_and_lem, bit_ones, bit_zero, among_fewer}

-- what the members of a set have left, with buyer i
module _ (k i t : ℕ) (ps : List ℕ) (b : Bool) (eb : b ≡ member k i) (t' : ℕ) where
  pub pay_in : b ≡ true → t' ≡ t + get_or ps (i - 1) 0 → t' ≡ t + only (member k) (payoff_at ps) i
  pay_in p et = let q : member k i ≡ true = sym eb ∙ p in rw (et, q)

  pub pay_out : b ≡ false → t' ≡ t → t' ≡ t + only (member k) (payoff_at ps) i
  pay_out p et = let q : member k i ≡ false = sym eb ∙ p in rw (et, q) (omega arith)

-- the greatest gain in economy e, with set k
module _ (m : ℕ) (gs : List ℕ) (e : ℕ) where
  abbrev pub counted : ℕ → ℕ
  counted k = when (inside (roster m) (present_in e) k) (at gs k)

  module _ (k best best' : ℕ) where
    pub best_rises : best < at gs k → (w : Bool) → w ≡ inside (roster m) (present_in e) k → w ≡ true →
        best' ≡ at gs k → best' ≡ max best (counted k)
    best_rises h w ew p eb = let q : inside (roster m) (present_in e) k ≡ true = sym ew ∙ p in rw q (omega arith)

    pub best_outside : (w : Bool) → w ≡ inside (roster m) (present_in e) k → w ≡ false → best' ≡ best →
        best' ≡ max best (counted k)
    best_outside w ew p eb = let q : inside (roster m) (present_in e) k ≡ false = sym ew ∙ p in rw q (omega arith)

    pub best_stays : at gs k ≤ best → best' ≡ best → best' ≡ max best (counted k)
    best_stays h eb = by_test (inside (roster m) (present_in e) k) (λ q. rw q (omega arith)) (λ q. rw q (omega arith))

-- the sets that are supplied in economy e, with those that set k covers
reach_start : (sets n : ℕ) (t : ℕ → Bool) → (bit n 0 || some t (up_to (sets - 0) 0)) ≡ some t (up_to sets 0)
reach_start sets n t = rw (bit_zero n, sub-zero)

module _ (m g top e n k word word' : ℕ) where
  pub reach_lower : (g ≡ top → ⊥) → word' ≡ word → bit n word' ≡ (bit n word || reaches m g top e n k)
  reach_lower h ew =
      rw (
        ew,
        ne_eqb g top h,
        and-false (covers (roster m) (present_in e) n k),
        and-false (inside (roster m) (present_in e) k),
        or-false (bit n word),
      )

  module _ (w : Bool) (ew : w ≡ inside (roster m) (present_in e) k) where
    pub reach_outside : w ≡ false → word' ≡ word → bit n word' ≡ (bit n word || reaches m g top e n k)
    reach_outside p e' =
        let q : inside (roster m) (present_in e) k ≡ false = sym ew ∙ p in rw (e', q, or-false (bit n word))

    pub reach_more : g ≡ top → w ≡ true → (s : ℕ) → bit n s ≡ covers (roster m) (present_in e) n k →
        word' ≡ bit_or word s → bit n word' ≡ (bit n word || reaches m g top e n k)
    reach_more et p s es e' =
        let q : inside (roster m) (present_in e) k ≡ true = sym ew ∙ p in
        rw (e', bit_or_lem n word s, es, q, eq-eqb g top et, and-true (covers (roster m) (present_in e) n k))

-- the same for the words of all economies, gone over one by one
module _ (m : ℕ) (rs : List ℕ) (g k : ℕ) (old : List ℕ) where
  abbrev pub Reached : ℕ → ℕ → Type 0
  Reached j w = Joined m (at rs j) g j k (at old j) w

  module _ (e : ℕ) (next next' : List ℕ) (so_far : Revised Reached 7 old e next) where
    pub joins_lower : (g ≡ at rs e → ⊥) → next' ≡ next → Revised Reached 7 old (e + 1) next'
    joins_lower h en =
        rw en (revised_skip Reached 7 old e next so_far
        (λ n l. reach_lower m g (at rs e) e n k (at old e) (at old e) h refl))

    module _ (w : Bool) (ew : w ≡ inside (roster m) (present_in e) k) where
      pub joins_outside : w ≡ false → next' ≡ next → Revised Reached 7 old (e + 1) next'
      joins_outside p en =
          rw en
          (revised_skip Reached 7 old e next so_far
          (λ n l. reach_outside m g (at rs e) e n k (at old e) (at old e) w ew p refl))

      pub joins_more : e < 7 → g ≡ at rs e → w ≡ true → (s : ℕ) → Word m (λ n. covers (roster m) (present_in e) n k) s →
          next' ≡ set next e (bit_or (at next e) s) → Revised Reached 7 old (e + 1) next'
      joins_more h eg p s es en =
          rw en
          (revised_set Reached 7 old e next so_far h (bit_or (at next e) s)
          (λ n l. reach_more m g (at rs e) e n k (at old e) (bit_or (at next e) s) w ew eg p s (es n l)
          (ap (λ x. bit_or x s) (so_far.rest e (omega arith)))))

-- the scan of all sets: what each word has, and the sets from k on add
module _ (m last : ℕ) (gs rs : List ℕ) where
  pub Scanned : ℕ → List ℕ → Type 0
  Scanned k words = (e : ℕ) → e ≤ last → (n : ℕ) → n < 2 ^ m →
      (bit n (at words e) || some (λ k. reaches m (at gs k) (at rs e) e n k) (up_to (2 ^ m - k) k))
      ≡ reached m gs (at rs e) e n

  pub scan_start : (words : List ℕ) → ((e : ℕ) → at words e ≡ 0) → Scanned 0 words
  unfolding Scanned
  scan_start words none e h n l = rw (none e) (reach_start (2 ^ m) n (λ k. reaches m (at gs k) (at rs e) e n k))

  module _ (k : ℕ) (words words' : List ℕ) (so_far : Scanned k words) where
    pub scan_more : k < 2 ^ m → (more : List ℕ) → Joins m last rs (at gs k) k words more → words' ≡ more →
        Scanned (k + 1) words'
    unfolding Scanned
    scan_more h more joins ew e l n q =
        some_more (2 ^ m) k h (λ k. reaches m (at gs k) (at rs e) e n k) (bit n (at words e)) (bit n (at words' e)) _
        (so_far e l n q)
        (ap (λ w. bit n (at w e)) ew ∙ joins e l n q)

    -- a set that gains less than each revenue adds nothing
    pub scan_pass : k < 2 ^ m → (least : ℕ) → Under last rs least → at gs k < least → words' ≡ words →
        Scanned (k + 1) words'
    scan_pass h least under less ew =
        scan_more h words
        (λ e l n q.
        reach_lower m (at gs k) (at rs e) e n k (at words e) (at words e) (λ z. omega (arith, under e l)) refl) ew

    pub scan_end : 2 ^ m ≤ k → Supplied m last gs rs words
    unfolding Scanned
    scan_end h e l n q =
        some_done (2 ^ m) k h (λ k. reaches m (at gs k) (at rs e) e n k) (bit n (at words e)) _ (so_far e l n q)

-- the least of the first revenues
pub under_more : (rs : List ℕ) (e least least' : ℕ) → ((j : ℕ) → j < e → least ≤ at rs j) → least' ≤ least →
    least' ≤ at rs e →
    (j : ℕ) → j < e + 1 → least' ≤ at rs j
under_more rs e least least' h a b j l =
    elim (ℕ_discrete j e) [ yes q ↦ omega (arith, ap (at rs) q) | no q ↦ omega (arith, h j (omega arith)) ]

-- and in every economy
pub every-start : (n m : ℕ) (t : ℕ → Bool) → n < 64 → (bit n 18446744073709551615 && every (m + 1 - 0) 0 t)
    ≡ every (m + 1) 0 t
every-start n m t h = rw (bit_ones n h, sub-zero)

pub every_more : (n word s word' : ℕ) (x : Bool) → bit n s ≡ x → word' ≡ bit_and word s →
    bit n word' ≡ (bit n word && x)
every_more n word s word' x es e = rw (e, bit_and_lem n word s, es)

-- the set of the keen buyers, with buyer i
abbrev pub keen : List ℕ → ℕ → Bool
keen ps i = leb 1 (payoff_at ps i)

double : (b : Bool) (p : ℕ) → when b (2 * p) ≡ 2 * when b p
double true p = refl
double false p = refl

number_up : (k s : ℕ) (t : ℕ → Bool) → number (suc k) s t ≡ number k s t + when (t (s + k)) (2 ^ k)
unfolding number
number_up zero s t = let e : s + 0 ≡ s = omega arith in omega (arith, ap (λ j. when (t j) 1) e)
number_up (suc k) s t =
    let e : suc s + k ≡ s + suc k = omega arith in
    omega (
      arith,
      number_up k (suc s) t,
      ap (λ j. when (t j) (2 ^ k)) e,
      ap (when (t (s + suc k))) (pow-succ' 2 k),
      double (t (s + suc k)) (2 ^ k),
    )

pub keen_none : (ps : List ℕ) → 0 ≡ number 0 1 (keen ps)
unfolding number
keen_none ps = refl

module _ (i set : ℕ) (ps : List ℕ) (e : set ≡ number i 1 (keen ps)) (set' : ℕ) where
  pub keen_in : 1 ≤ at ps i → (p : ℕ) → p ≡ 2 ^ i → set' ≡ set + p → set' ≡ number (i + 1) 1 (keen ps)
  keen_in h p ep es =
      let z : 1 + i - 1 ≡ i = omega arith in
      rw (add-one i) (omega (arith, rw (z, le-leb 1 (at ps i) h) at (number_up i 1 (keen ps))))

  pub keen_out : at ps i < 1 → set' ≡ set → set' ≡ number (i + 1) 1 (keen ps)
  keen_out h es =
      let z : 1 + i - 1 ≡ i = omega arith in
      rw (add-one i) (omega (arith, rw (z, lt-leb 1 (at ps i) h) at (number_up i 1 (keen ps))))

pub keen_all : (m i r : ℕ) (ps : List ℕ) → m ≤ 6 → i ≡ m → r ≡ number i 1 (keen ps) → KeenBuyers m ps r
keen_all m i r ps few q e =
    let all : r ≡ number m 1 (keen ps) = e ∙ ap (λ n. number n 1 (keen ps)) q in
    record {
      few = omega (arith, number_small m 1 (keen ps) few);
      is = λ j lo hi.
          let b : 1 + (j - 1) ≡ j = omega arith in
          ap (bit (j - 1)) all ∙ number_bit m 1 (keen ps) (j - 1) (omega arith) ∙ ap (keen ps) b;
    }

-- the lowest set by words
pub words-lowest : (m last : ℕ) (words ps : List ℕ) (sets k w all r : ℕ) → m ≤ 6 → sets ≡ 2 ^ m → KeenBuyers m ps k →
    Word 6 (among 6 k) w →
    Word 6 (λ n. every (last + 1) 0 (λ e. bit n (at words e))) all →
    r ≡ least sets 0 (λ n. bit n w && not (bit n all)) → r ≡ lowest_in m last words ps
words-lowest m last words ps sets k w all r few es keen kw aw er =
    er ∙ ap (λ s. least s 0 (λ n. bit n w && not (bit n all))) es ∙
    least_same (2 ^ m) 0 _ _ (λ n h.
    let l : n < 2 ^ m = omega arith in
    let low : n < 64 = omega (arith, pow_mono {i = m} {j = 6} few) in
    let a : bit n w ≡ every m 1 (λ i. member n i ⊃ leb 1 (payoff_at ps i)) =
    kw n low ∙ among_fewer m k n few l ∙
    every_same m 1 (λ i. member n i ⊃ member k i) (λ i. member n i ⊃ leb 1 (payoff_at ps i))
    (λ i q. rw (keen.is i (omega arith) (omega arith))) in
    rw (a, aw n low))
