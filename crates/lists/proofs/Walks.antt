-- The words of the owner lists as a walk writes them, for any order of owners and any shares: how many (`lists_length`,
-- `written_length`), with no place left (`whole_end`), with one owner more tried (`written_next`), with all
-- (`written_all`), and of all lots (`walked`).
use mathlib.Core.Path.{◌≡◌, refl, sym, ap, ◌∙◌}
use mathlib.Core.List.{List, [], ◌∷◌, ◌++◌, map-append, append_assoc, append-nil}
use Prim.Native.Nat.{ℕ, zero, suc, ◌+◌, ◌-◌, ◌*◌, ◌^◌, ◌≤◌, ◌<◌}
use native.Mathlib.Nat.{pow-zero, pow-succ', pow-le-pow_left, pow-le-pow_right, mul-le-mul_right, add-mul}
use native.Mathlib.Numerals.{add-one}
use native.Mathlib.Omega.{arith}
use lib.Dec.{lit<}
use lib.ListN.{length, take, get_or, set, length-append, length-map, length-take}
use lib.Seq.{take-suc, take-suc-set, take_all, length-take-le}
use Rattle.theory.specs.Lists.{over}
use Rattle.theory.proofs.Lists.{map_same, tabulate-take, tabulate_each}
use Rattle.owners.specs.Owners.{with_owner, spread, allocations, zero_first, single}
use Rattle.owners.specs.Singles.{AtMost}
use Rattle.owners.proofs.Owners.{allocation_from}
use Rattle.lists.specs.Words.{word_of, words_after, lot_words, share_in}
use Rattle.lists.proofs.Words.{word_same, singles_in}

module _ (share : ℕ → ℕ) (pre : List ℕ) (o : ℕ) where
  map_owner : (al : List (List ℕ)) → words_after share pre (with_owner o al) ≡ words_after share (pre ++ (o ∷ [])) al
  map_owner [] = refl
  map_owner (a ∷ al) = rw (append_assoc pre (o ∷ []) a, map_owner al) refl

spread-last : (os : List ℕ) (o : ℕ) (al : List (List ℕ)) → spread (os ++ (o ∷ [])) al ≡ spread os al ++ with_owner o al
spread-last [] o al = append-nil (with_owner o al)
spread-last (p ∷ os) o al =
    ap (λ x. with_owner p al ++ x) (spread-last os o al) ∙ sym
    (append_assoc (with_owner p al) (spread os al) (with_owner o al))

owner_length : (o : ℕ) (al : List (List ℕ)) → length (with_owner o al) ≡ length al
owner_length o [] = refl
owner_length o (a ∷ al) = ap suc (owner_length o al)

spread-length : (os : List ℕ) (al : List (List ℕ)) → length (spread os al) ≡ length os * length al
spread-length [] al = omega arith
spread-length (o ∷ os) al =
    length-append (with_owner o al) (spread os al) ∙ omega (arith, owner_length o al, spread-length os al)

pub lists_length : (os : List ℕ) (n : ℕ) → length (allocations os n) ≡ length os ^ n
lists_length os zero = rw pow-zero refl
lists_length os (suc n) = rw pow-succ' (spread-length os (allocations os n) ∙ rw (lists_length os n) refl)

-- the words of the lists that begin with `pre`: with one of the first i owners for the next place and k places more,
-- and with all owners and k places
module _ (share : ℕ → ℕ) (os pre : List ℕ) where
  abbrev pub written : ℕ → ℕ → List ℕ
  written i k = words_after share pre (spread (take i os) (allocations os k))

  abbrev pub whole : ℕ → List ℕ
  whole k = words_after share pre (allocations os k)

  pub whole_length : (k : ℕ) → length (whole k) ≡ length os ^ k
  whole_length k = length-map (allocations os k) (λ a. word_of share (pre ++ a)) ∙ lists_length os k

  pub written_length : (i k : ℕ) → i ≤ length os → length (written i k) ≡ i * length os ^ k
  written_length i k h =
      length-map (spread (take i os) (allocations os k)) (λ a. word_of share (pre ++ a))
      ∙ spread-length (take i os) (allocations os k) ∙ rw (lists_length os k, length-take-le i os h) refl

  pub written_all : (i left : ℕ) → (left ≡ 0 → ⊥) → length os ≤ i → written i (left - 1) ≡ whole left
  written_all i zero h e = absurd (h refl)
  written_all i (suc k) h e = let z : suc k - 1 ≡ k = omega arith in rw (z, take_all i os e) refl

  pub written_next : (pre' : List ℕ) (i k : ℕ) → i < length os → pre' ≡ pre ++ (get_or os i 0 ∷ []) →
      written (i + 1) k ≡ written i k ++ words_after share pre' (allocations os k)
  written_next pre' i k h e =
      let al = allocations os k in
      rw (add-one i, e, take-suc os i 0 h)
      (ap (words_after share pre) (spread-last (take i os) (get_or os i 0) al)
      ∙ map-append (λ a. word_of share (pre ++ a)) (spread (take i os) al) (with_owner (get_or os i 0) al)
      ∙ ap (λ l. written i k ++ l) (map_owner share pre (get_or os i 0) al))

-- the owners of the lots before the last `left` of n
module _ (owners : List ℕ) (n left : ℕ) where
  pub whole_end : (share : ℕ → ℕ) (os : List ℕ) → left ≡ 0 →
      word_of share (take n owners) ∷ [] ≡ whole share os (take (n - left) owners) left
  whole_end share os z =
      let e : n - 0 ≡ n = omega arith in
      rw (z, e, append-nil (take n owners)) refl

  pub begun_next : (next : List ℕ) (o : ℕ) → next ≡ set owners (n - left) o → (left ≡ 0 → ⊥) → left ≤ n →
      n ≤ length owners → take (n - (left - 1)) next ≡ take (n - left) owners ++ (o ∷ [])
  begun_next next o e some few long =
      let f : n - (left - 1) ≡ suc (n - left) = omega arith in
      rw (e, f) (take-suc-set owners (n - left) o (omega arith))

-- lists of small numbers
module _ (c : ℕ) where
  pub set_small : (k v : ℕ) (l : List ℕ) → v ≤ c → AtMost c l → AtMost c (set l k v)
  set_small k v [] g h j = omega arith
  set_small zero v (x ∷ l) g h zero = g
  set_small zero v (x ∷ l) g h (suc j) = h (suc j)
  set_small (suc k) v (x ∷ l) g h zero = h 0
  set_small (suc k) v (x ∷ l) g h (suc j) = set_small k v l g (λ i. h (suc i)) j

  pub take_small : (n : ℕ) (l : List ℕ) → AtMost c l → AtMost c (take n l)
  take_small zero l h k = omega arith
  take_small (suc n) [] h k = omega arith
  take_small (suc n) (x ∷ l) h zero = h 0
  take_small (suc n) (x ∷ l) h (suc k) = take_small n l (λ j. h (suc j)) k

-- room for the words with owner number i of q, after those with an owner before it; and how many they are
module _ (q i left L : ℕ) (some : left ≡ 0 → ⊥) where
  all_count : q ^ left ≡ q * q ^ (left - 1)
  all_count = let e : left ≡ suc (left - 1) = omega arith in ap (λ n. q ^ n) e ∙ pow-succ' q (left - 1)

  pub next_count : i * q ^ (left - 1) + q ^ (left - 1) ≡ (i + 1) * q ^ (left - 1)
  next_count = omega (arith, add-mul i 1 (q ^ (left - 1)))

  pub written_room : q ^ left ≤ L → i ≤ q → i * q ^ (left - 1) ≤ L
  written_room room h = omega (arith, all_count, mul-le-mul_right (q ^ (left - 1)) h)

  pub next_room : q ^ left ≤ L → i + 1 ≤ q → i * q ^ (left - 1) + q ^ (left - 1) ≤ L
  next_room room h = omega (arith, all_count, next_count, mul-le-mul_right (q ^ (left - 1)) h)

  pub whole-count : i ≡ q → i * q ^ (left - 1) ≡ q ^ left
  whole-count e = rw e (sym all_count)

-- all owners
abbrev pub owners : List ℕ
owners = 0 ∷ 1 ∷ 2 ∷ 3 ∷ 4 ∷ 5 ∷ 6 ∷ []

pub owners_small : AtMost 6 owners
owners_small = tabulate_each (λ o. o ≤ 6) 0 7 0 (λ o. o) (omega arith) (λ o r. omega arith)

pub few_lists : (k n L : ℕ) (l : List ℕ) → length l ≤ 7 → n ≤ 4 → 2401 ≤ L → length (take k l) ^ n ≤ L
few_lists k n L l h short room =
    let q : length (take k l) ≤ 7 = omega (arith, length-take k l) in
    omega (arith, pow-le-pow_left {n = length (take k l)} {m = 7} q n, pow-le-pow_right {n = 7} (lit< tt) short)

-- of n lots among m buyers
module _ (m n : ℕ) (few : m ≤ 6) (short : n ≤ 4) where
  abbrev pub order : List ℕ
  order = take (m + 1) owners

  order_is : order ≡ zero_first m
  order_is = rw (add-one m) (tabulate-take (suc m) 7 0 (λ o. o) (omega arith))

  module _ (pre : List ℕ) where
    abbrev walk : List ℕ
    walk = whole (share_in (1 ∷ 2 ∷ 4 ∷ 8 ∷ [])) order (take (n - n) pre) n

    listed : walk ≡ lot_words m n
    listed =
        let z : n - n ≡ 0 = omega arith in
        rw (z, order_is)
        (map_same (allocations (zero_first m) n)
        (λ a q. word_same _ single 4 singles_in a (omega (arith, (allocation_from (zero_first m) n q).0))))

  pub walked : (old new pre : List ℕ) (r : ℕ) → r ≡ length order ^ n → new ≡ over (walk pre) old →
      (r ≡ length (lot_words m n)) × (new ≡ over (lot_words m n) old)
  walked old new pre r er en = (
    er ∙ sym (whole_length (share_in (1 ∷ 2 ∷ 4 ∷ 8 ∷ [])) order (take (n - n) pre) n) ∙ ap length (listed pre),
    en ∙ ap (λ l. over l old) (listed pre),
  )
