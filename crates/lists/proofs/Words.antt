-- Digits are read as they were packed (`pack-read`): a bidder's bundle (`word_bundle`), a place's owner (`word_owner`),
-- and all owners (`word_owners`). Place by place (`word_from`) the same word is made (`word_first`, `word_next`,
-- `word_done`). For owners up to 6 and bundles below 16, as `Packs` says; allocations of four lots are such
-- (`lots_pack`).
use mathlib.Core.Path.{◌≡◌, refl, sym, ap, ◌∙◌}
use mathlib.Core.List.{List, [], ◌∷◌, ◌++◌}
use mathlib.Core.List.Memᴰ
use mathlib.Core.List.Memᴰ.{head as here}
use mathlib.Core.List.Memᴰ.{tail as there}
use Prim.Native.Nat.{ℕ, zero, suc, ◌+◌, ◌-◌, ◌*◌, ◌/◌, ◌%◌, ◌^◌, ◌≤◌, ◌<◌}
use native.Mathlib.Nat.{zero-add, mod-eq_of_lt, div-one, zero-div, pow-zero, pow-succ', div-div-eq-div-mul}
use native.Mathlib.Nat.{pow-le-pow_right}
use native.Mathlib.Numerals.{add-one}
use native.Mathlib.Decide.{ℕ_discrete, dec_le}
use native.Mathlib.Omega.{arith}
use lib.Dec.{eqb, lit<}
use lib.ListN.{length, take, drop, get_or, replicate, length-append, length-replicate, length-take, get_or-append}
use lib.ListN.{drop_of_length-le}
use lib.Pow.{pow-add}
use lib.Seq.{get_or-append-add, get_or-take, drop-cons, length-take-le, ext_get_or}
use borrow.Author.Tests.{eq-eqb, ne_eqb}
use Rattle.theory.specs.Sums.{when}
use Rattle.theory.specs.Lists.{◌∈◌, tabulate}
use Rattle.theory.proofs.Lists.{tabulate-at, tabulate-length, tabulate_same, up_to_from, zeros-at, in_at}
use Rattle.numbers.proofs.Numbers.{pow_small, product_small}
use Rattle.owners.specs.Owners.{allocations, zero_first, bundle_from, single}
use Rattle.owners.specs.Singles.{AtMost}
use Rattle.owners.proofs.Owners.{allocation_from}
use Rattle.owners.proofs.Singles.{singles_below}
use Rattle.offers.specs.Places.{four}
use Rattle.lists.specs.Words.{Packs, pack, digit, bundles, word_of, owners_of, share_in}

-- digits
pub sixteens : (k : ℕ) → 2 ^ (4 * k) ≡ 16 ^ k
sixteens zero = refl
sixteens (suc k) = let e : 4 * suc k ≡ 4 + 4 * k = omega arith in
    rw (e, pow-add 2 4 (4 * k), sixteens k, pow-succ' 16 k) refl

-- a number shifted to digit k
shifted : (x k : ℕ) → x * 16 ^ k < 2 ^ 64 → x * 2 ^ (4 * k) % 2 ^ 64 ≡ x * 16 ^ k
shifted x k h = rw (sixteens k) (mod-eq_of_lt h)

digit_next : (k d x : ℕ) → d < 16 → digit (suc k) (d + 16 * x) ≡ digit k x
digit_next k d x h =
    let e : (d + 16 * x) / 16 ≡ x = omega arith in
    rw (pow-succ', ← div-div-eq-div-mul, e)

pub pack-read : (l : List ℕ) → ((j : ℕ) → get_or l j 0 < 16) → (k : ℕ) → digit k (pack l) ≡ get_or l k 0
pack-read [] h k = rw (zero-div (16 ^ k)) refl
pack-read (d ∷ l) h zero = rw (pow-zero, div-one) (omega (arith, h 0))
pack-read (d ∷ l) h (suc k) = digit_next k d (pack l) (h 0) ∙ pack-read l (λ j. h (suc j)) k

pack-append : (l r : List ℕ) → pack (l ++ r) ≡ pack l + 16 ^ length l * pack r
pack-append [] r = rw pow-zero (omega arith)
pack-append (d ∷ l) r = rw (pow-succ', pack-append l r) (omega arith)

-- s more at one of k digits from b on
pack_more : (k b o s : ℕ) (f : ℕ → ℕ) → b ≤ o → o < b + k →
    pack (tabulate k b (λ i. when (eqb o i) s + f i)) ≡ s * 16 ^ (o - b) + pack (tabulate k b f)
pack_more zero b o s f lo hi = absurd (omega arith)
pack_more (suc k) b o s f lo hi =
    elim (ℕ_discrete o b) [
      | yes e ↦
          let z : o - b ≡ 0 = omega arith in
          let same = tabulate_same k (suc b) (λ i. when (eqb o i) s + f i) f
          (λ i r. rw (ne_eqb o i (λ q. omega arith)) (omega arith)) in
          rw (z, pow-zero, eq-eqb o b e, same) (omega arith)
      | no e ↦
          let z : o - b ≡ suc (o - suc b) = omega arith in
          rw (z, pow-succ', ne_eqb o b e, pack_more k (suc b) o s f (omega arith) (omega arith)) (omega arith)
    ]

-- what a place's owner adds, its share in the bundle and the owner's digit: shifted there, and small
pub place_added : (place share o : ℕ) → place < 4 → share ≤ 15 → o ≤ 6 →
    (share * 2 ^ (4 * o) % 2 ^ 64 ≡ share * 16 ^ o) × (o * 2 ^ (4 * (7 + place)) % 2 ^ 64 ≡ o * 16 ^ (7 + place))
    × (share * 16 ^ o + o * 16 ^ (7 + place) ≤ 15 * 16 ^ 6 + 6 * 16 ^ 10)
place_added place share o short small few =
    let bundle : share * 16 ^ o ≤ 15 * 16 ^ 6 =
    product_small share (16 ^ o) 15 (16 ^ 6) small (pow-le-pow_right {n = 16} (lit< tt) few) in
    let owner : o * 16 ^ (7 + place) ≤ 6 * 16 ^ 10 =
    product_small o (16 ^ (7 + place)) 6 (16 ^ 10) few
    (pow-le-pow_right {n = 16} (lit< tt) {i = 7 + place} {j = 10} (omega arith)) in (
      shifted share o (omega (arith, bundle)),
      shifted o (7 + place) (omega (arith, owner)),
      omega (arith, bundle, owner),
    )

pub lots_pack : (m n : ℕ) → m ≤ 6 → n ≤ 4 → {a : List ℕ} → a ∈ allocations (zero_first m) n → Packs single a
lots_pack m n few short {a} h =
    let (long, owners) = allocation_from (zero_first m) n h in
    record {
      owned = λ o q. omega (arith, up_to_from (suc m) 0 (owners o q));
      small = λ i. omega (arith, singles_below n i a long, pow_small n short);
    }

pub none_packs : (share : ℕ → ℕ) → Packs share []
none_packs share = record { owned = λ o q. absurd (Memᴰ.not-nil q); small = λ i. omega arith }

owner_small : (a : List ℕ) → ((o : ℕ) → o ∈ a → o < 7) → (j : ℕ) → get_or a j 0 < 16
owner_small [] h j = omega arith
owner_small (o ∷ a) h zero = omega (arith, h o (here refl))
owner_small (o ∷ a) h (suc j) = owner_small a (λ p q. h p (there q)) j

-- a word made place by place: what owner o of place j adds, and the word w with the owners of the places from j on
module _ (share : ℕ → ℕ) where
  abbrev part : ℕ → ℕ → ℕ
  part j o = share j * 16 ^ o + o * 16 ^ (7 + j)

  abbrev pub word_from : ℕ → ℕ → List ℕ → ℕ
  word_from w j [] = w
  word_from w j (o ∷ a) = word_from (w + part j o) (suc j) a

module _ (share : ℕ → ℕ) where
  bundles-length : (j : ℕ) (a : List ℕ) → length (bundles share j a) ≡ 7
  unfolding bundles
  bundles-length j a = tabulate-length 7 0 (λ i. bundle_from share j i a)

  bundles-at : (j : ℕ) (a : List ℕ) (i : ℕ) → i < 7 → get_or (bundles share j a) i 0 ≡ bundle_from share j i a
  unfolding bundles
  bundles-at j a i h = tabulate-at 7 0 (λ i. bundle_from share j i a) i 0 h
      ∙ ap (λ i. bundle_from share j i a) (zero-add i)

  bundles_none : (j : ℕ) → pack (bundles share j []) ≡ 0
  unfolding bundles
  bundles_none j = refl

  pub word_none : word_of share [] ≡ 0
  unfolding bundles
  word_none = refl

  bundles_more : (j o : ℕ) (a : List ℕ) → o < 7 → pack (bundles share j (o ∷ a)) ≡ share j * 16 ^ o + pack
      (bundles share (suc j) a)
  unfolding bundles
  bundles_more j o a h =
      let e : o - 0 ≡ o = omega arith in
      rw e at (pack_more 7 0 o (share j) (λ i. bundle_from share (suc j) i a) (omega arith) (omega arith))

  digits_bundle : (a : List ℕ) (i : ℕ) → i < 7 → get_or (bundles share 0 a ++ a) i 0 ≡ bundle_from share 0 i a
  digits_bundle a i h = get_or-append (bundles share 0 a) a 0 i (omega (arith, bundles-length 0 a))
      ∙ bundles-at 0 a i h

  digits_owner : (a : List ℕ) (j : ℕ) → get_or (bundles share 0 a ++ a) (7 + j) 0 ≡ get_or a j 0
  digits_owner a j = rw (← bundles-length 0 a) (get_or-append-add (bundles share 0 a) a j 0)

  module _ (a : List ℕ) (p : Packs share a) where
    digits_small : (k : ℕ) → get_or (bundles share 0 a ++ a) k 0 < 16
    digits_small k =
        elim (dec_le 7 k) [
          | yes h ↦
              let e : k ≡ 7 + (k - 7) = omega arith in
              omega (
                arith,
                ap (λ k. get_or (bundles share 0 a ++ a) k 0) e,
                digits_owner a (k - 7),
                owner_small a
                    p.owned (k - 7),
              )
          | no h ↦ omega (arith, digits_bundle a k (omega arith), p.small k)
        ]

    pub word_bundle : (i : ℕ) → i < 7 → digit i (word_of share a) ≡ bundle_from share 0 i a
    word_bundle i h = pack-read (bundles share 0 a ++ a) digits_small i ∙ digits_bundle a i h

    pub word_owner : (j : ℕ) → digit (7 + j) (word_of share a) ≡ get_or a j 0
    word_owner j = pack-read (bundles share 0 a ++ a) digits_small (7 + j) ∙ digits_owner a j

    pub word_owners : length a ≤ 4 → owners_of (word_of share a) ≡ four a
    unfolding owners_of
    word_owners short =
        ext_get_or 0 (owners_of (word_of share a)) (four a) (rw (length-append, length-replicate) (omega arith))
        (λ j h. tabulate-at 4 0 (λ j. digit (7 + j) (word_of share a)) j 0 h
        ∙ ap (λ j. digit (7 + j) (word_of share a)) (zero-add j)
        ∙ word_owner j ∙ sym (padded (4 - length a) a j))
      where
        padded : (z : ℕ) (a : List ℕ) (j : ℕ) → get_or (a ++ replicate z 0) j 0 ≡ get_or a j 0
        padded z [] j = zeros-at z j
        padded z (o ∷ a) zero = refl
        padded z (o ∷ a) (suc j) = padded z a j

  -- as it is made place by place
  from_is : (w j : ℕ) (a : List ℕ) → ((o : ℕ) → o ∈ a → o < 7) →
      word_from share w j a ≡ w + (pack (bundles share j a) + 16 ^ (7 + j) * pack a)
  from_is w j [] h = rw (bundles_none j) (omega arith)
  from_is w j (o ∷ a) h =
      let e : 7 + suc j ≡ suc (7 + j) = omega arith in
      from_is (w + part share j o) (suc j) a (λ p q. h p (there q))
      ∙ rw (bundles_more j o a (h o (here refl)), e, pow-succ') (omega arith)

  word_made : (a : List ℕ) → ((o : ℕ) → o ∈ a → o < 7) → word_from share 0 0 a ≡ word_of share a
  word_made a h = from_is 0 0 a h ∙ rw (pack-append (bundles share 0 a) a, bundles-length 0 a) (omega arith)

-- the first n owners of a list, each at most 6: the word w is made of j of them
module _ (share : ℕ → ℕ) (os : List ℕ) (n : ℕ) where
  pub word_first : AtMost 6 os → word_from share 0 0 (take n os) ≡ word_of share (take n os)
  word_first h = word_made share (take n os) (λ o q.
      let (j, k, e) = in_at 0 (take n os) q in
      omega (arith, e, h j, get_or-take n os j 0 (omega (arith, length-take n os))))

  module _ (j w T : ℕ) (inv : word_from share w j (drop j (take n os)) ≡ T) where
    pub word_next : j < n → n ≤ length os → (o w' : ℕ) → o ≡ get_or os j 0 → w' ≡ w + part share j o →
        word_from share w' (j + 1) (drop (j + 1) (take n os)) ≡ T
    word_next h long o w' eo e =
        let f = drop-cons (take n os) j 0 (omega (arith, length-take-le n os long)) in
        rw (e, eo, add-one j) (rw (f, get_or-take n os j 0 h) at inv)

    pub word_done : n ≤ j → w ≡ T
    word_done h = rw (drop_of_length-le (take n os) {i = j} (omega (arith, length-take n os))) at inv

-- with the shares of single lots
pub singles_in : (j : ℕ) → j < 4 → share_in (1 ∷ 2 ∷ 4 ∷ 8 ∷ []) j ≡ single j
singles_in zero h = refl
singles_in (suc zero) h = refl
singles_in (suc (suc zero)) h = refl
singles_in (suc (suc (suc zero))) h = refl
singles_in (suc (suc (suc (suc j)))) h = absurd (omega arith)

pub singles_small : AtMost 15 (1 ∷ 2 ∷ 4 ∷ 8 ∷ [])
singles_small zero = omega arith
singles_small (suc zero) = omega arith
singles_small (suc (suc zero)) = omega arith
singles_small (suc (suc (suc zero))) = omega arith
singles_small (suc (suc (suc (suc j)))) = omega arith

-- shares that are the same for n places make the same words of them
module _ (share share' : ℕ → ℕ) (n : ℕ) (same : (j : ℕ) → j < n → share j ≡ share' j) where
  bundle_same : (j i : ℕ) (a : List ℕ) → j + length a ≤ n → bundle_from share j i a ≡ bundle_from share' j i a
  bundle_same j i [] h = refl
  bundle_same j i (o ∷ a) h = rw (same j (omega arith), bundle_same (suc j) i a (omega arith)) refl

  pub word_same : (a : List ℕ) → length a ≤ n → word_of share a ≡ word_of share' a
  unfolding bundles
  word_same a h =
      ap (λ l. pack (l ++ a)) (tabulate_same 7 0 _ _ (λ i _. bundle_same 0 i a (omega arith)))
