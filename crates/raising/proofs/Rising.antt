-- Payoffs read off prices (`payoff-some`), and prices raised by payoffs, bundle by bundle (`row_more`) and buyer by
-- buyer (`rows_in`): so far they are those of a raise of fewer bundles, and of fewer buyers.
use mathlib.Core.Path.{◌≡◌, refl, sym, ap, ◌∙◌}
use mathlib.Core.Bool.{Bool, true, false, ◌&&◌, and-false}
use mathlib.Core.List.{List}
use Prim.Native.Nat.{ℕ, zero, suc, ◌+◌, ◌-◌, ◌*◌, ◌/◌, ◌≤◌, ◌<◌}
use native.Mathlib.Nat.{zero-add}
use native.Mathlib.Omega.{arith}
use native.Mathlib.Decide.{ℕ_discrete, dec_lt}
use lib.Dec.{eqb, leb, ltb}
use lib.ListN.{length, get_or, set, length-set}
use lib.Seq.{get_or-set_same, get_or-set_other}
use borrow.Author.Tests.{eq-eqb, ne_eqb, lt-ltb, le-ltb, ltb-true, le-leb}
use Rattle.theory.specs.Sums.{when}
use Rattle.theory.specs.Lists.{tabulate}
use Rattle.theory.specs.Markets.{Table}
use Rattle.theory.proofs.Tests.{by_test}
use Rattle.theory.proofs.Sums.{when_one}
use Rattle.theory.proofs.Lists.{tabulate-at, tabulate-length, tabulate_same}
use Rattle.theory.proofs.Loops.{Filled, filled_all}
use Rattle.owners.specs.Owners.{member}
use Rattle.owners.specs.Prices.{buyer_rows}
use Rattle.owners.specs.Quick.{left, rising, raised_by}
use Rattle.owners.specs.Singles.{worth_table, AtMost}
use Rattle.raising.specs.Raising.{raised_row}

-- the payoff of a bundle that is not empty
pub payoff-some : (top : ℕ) (ws ps : List ℕ) (i w p : ℕ) → 1 ≤ top → w ≡ get_or ws (16 * (i - 1) + top) 0 → p
    ≡ get_or ps (16 * (i - 1) + top) 0 →
    w - p ≡ left (buyer_rows 6) (worth_table ws) top ps i
payoff-some top ws ps i w p h ew ep = rw (ew, ep, ne_eqb top 0 (λ z. omega arith))

-- the payoffs of the first i buyers
pub record Reading (top : ℕ) (ws ps : List ℕ) (i : ℕ) (r : List ℕ) : Type 0 where
  pub filled : Filled (λ j. left (buyer_rows 6) (worth_table ws) top ps (j + 1)) 6 i r
  pub small : AtMost 9999 r

-- prices of which those rise by 1 whose row and bundle pass a test
module _ (t : ℕ → ℕ → Bool) (ps : List ℕ) where
  abbrev risen_price : ℕ → ℕ
  risen_price k = get_or ps k 0 + when (t (k / 16) (k - 16 * (k / 16))) 1

  abbrev risen : List ℕ
  risen = tabulate 96 0 risen_price

  risen_at_lem : (k : ℕ) → k < 96 → get_or risen k 0 ≡ risen_price k
  risen_at_lem k h = tabulate-at 96 0 risen_price k 0 h ∙ ap risen_price (zero-add k)

  risen_is : (l : List ℕ) → length l ≡ 96 → ((k : ℕ) → k < 96 → get_or l k 0 ≡ risen_price k) → l ≡ risen
  risen_is l e same = filled_all risen_price 96 96 l (omega arith) (record { long = e; done = same })

  risen_none : length ps ≡ 96 → ((j s : ℕ) → t j s ≡ false) → ps ≡ risen
  risen_none e none = risen_is ps e (λ k h. rw (none (k / 16) (k - 16 * (k / 16))) (omega arith))

-- a raise after another, and of one more price
module _ (t t' : ℕ → ℕ → Bool) (ps : List ℕ) where
  risen_then : (u : ℕ → ℕ → Bool) → ((j s : ℕ) → when (t j s) 1 + when (u j s) 1 ≡ when (t' j s) 1) →
      risen u (risen t ps) ≡ risen t' ps
  risen_then u both =
      risen_is t' ps (risen u (risen t ps)) (tabulate-length 96 0 (risen_price u (risen t ps))) (λ k h.
      risen_at_lem u (risen t ps) k h ∙ omega (arith, risen_at_lem t ps k h, both (k / 16) (k - 16 * (k / 16))))

  risen_same : ((j s : ℕ) → t j s ≡ t' j s) → risen t ps ≡ risen t' ps
  risen_same same =
      tabulate_same 96 0 (risen_price t ps) (risen_price t' ps)
      (λ k _. ap (λ b. get_or ps k 0 + when b 1) (same (k / 16) (k - 16 * (k / 16))))

  risen_set : (j s k v : ℕ) → k ≡ 16 * j + s → s < 16 → k < 96 →
      ((j' s' : ℕ) → (j' ≡ j → s' ≡ s → ⊥) → t j' s' ≡ t' j' s') → v ≡ get_or ps k 0 + when (t' j s) 1 →
      set (risen t ps) k v ≡ risen t' ps
  risen_set j s k v ek h l others ev =
      let row : k / 16 ≡ j = omega arith in
      let bundle : k - 16 * (k / 16) ≡ s = omega arith in
      let long = tabulate-length 96 0 (risen_price t ps) in
      risen_is t' ps (set (risen t ps) k v) (length-set (risen t ps) k v ∙ long) (λ k' q.
      elim (ℕ_discrete k' k) [
        | yes e ↦
            let here = ap (risen_price t' ps) e in
            ap (λ i. get_or (set (risen t ps) k v) i 0) e
            ∙ get_or-set_same (risen t ps) k v 0 (omega (arith, long))
            ∙ ev ∙ sym (here ∙ rw (bundle, row))
        | no n ↦
            get_or-set_other (risen t ps) k k' v 0 n ∙ risen_at_lem t ps k' q
            ∙ ap (λ b. get_or ps k' 0 + when b 1)
            (others (k' / 16) (k' - 16 * (k' / 16)) (λ a b. n (omega arith)))
      ])

-- a raise keeps ninety-six prices, and adds at most 1 to each
tabulate_small : (k s c : ℕ) (f : ℕ → ℕ) → ((i : ℕ) → f i ≤ c) → AtMost c (tabulate k s f)
tabulate_small zero s c f h j = omega arith
tabulate_small (suc k) s c f h zero = h s
tabulate_small (suc k) s c f h (suc j) = tabulate_small k (suc s) c f h j

pub raised_long : (m all : ℕ) (v : Table) (set : ℕ → Bool) (π : ℕ → ℕ) (ps : List ℕ) →
    length (raised_by (buyer_rows m) all v set π ps) ≡ 96
unfolding raised_by
raised_long m all v set π ps = tabulate-length 96 0 (risen_price (rising (buyer_rows m) all v set π) ps)

pub raised_small : (m all : ℕ) (v : Table) (set : ℕ → Bool) (π : ℕ → ℕ) (ps : List ℕ) (c : ℕ) → AtMost c ps →
    AtMost (c + 1) (raised_by (buyer_rows m) all v set π ps)
unfolding raised_by
raised_small m all v set π ps c h =
    let t = rising (buyer_rows m) all v set π in
    tabulate_small 96 0 (c + 1) (risen_price t ps) (λ k. omega (arith, h k, when_one (t (k / 16) (k - 16 * (k / 16)))))

-- and leaves those of bundles that are not below `all`
raised_past : (m all : ℕ) (v : Table) (set : ℕ → Bool) (π : ℕ → ℕ) (ps : List ℕ) (j s k : ℕ) → k ≡ 16 * j + s →
    all ≤ s → s < 16 → k < 96 → get_or (raised_by (buyer_rows m) all v set π ps) k 0 ≡ get_or ps k 0
unfolding raised_by
raised_past m all v set π ps j s k ek past few h =
    let row : k / 16 ≡ j = omega arith in
    let bundle : k - 16 * (k / 16) ≡ s = omega arith in
    risen_at_lem (rising (buyer_rows m) all v set π) ps k h
    ∙ rw (bundle, row, le-ltb s all past, and-false (leb 1 s), and-false (ltb j m)) (omega arith)

-- a range that ends one later has its last number more
ltb_more : (n i : ℕ) → (n ≡ i → ⊥) → ltb n i ≡ ltb n (i + 1)
ltb_more n i h =
    elim (dec_lt n i) [
      | yes l ↦ rw (lt-ltb n i l, lt-ltb n (i + 1) (omega arith))
      | no l ↦ rw (le-ltb n i (omega arith), le-ltb n (i + 1) (omega arith))
    ]

-- the row of buyer i, raised for the bundles below s
module _ (ws : List ℕ) (i left : ℕ) (lo : 1 ≤ i) (hi : i ≤ 6) (ps : List ℕ) where
  abbrev own : ℕ → ℕ → ℕ → Bool
  own all j s = rising (buyer_rows 6) all (worth_table ws) (eqb i) (λ _. left) j s

  pub row_none : length ps ≡ 96 → ps ≡ raised_row 1 ws i left ps
  unfolding raised_by
  row_none e = risen_none (own 1) ps e no_bundle
    where
      no_bundle : (j s : ℕ) → own 1 j s ≡ false
      no_bundle j zero = and-false (ltb j 6)
      no_bundle j (suc s) = rw (le-ltb (suc s) 1 (omega arith), and-false (leb 1 (suc s))) (and-false (ltb j 6))

  module _ (s : ℕ) (one : 1 ≤ s) (few : s < 16) (next : List ℕ) (so_far : next ≡ raised_row s ws i left ps) where
    abbrev k : ℕ
    k = 16 * (i - 1) + s

    -- of the price at k nothing is changed so far
    pub row_at : get_or next k 0 ≡ get_or ps k 0
    row_at =
        ap (λ l. get_or l k 0) so_far
        ∙ raised_past 6 s (worth_table ws) _ _ ps (i - 1) s k refl (omega arith) few (omega arith)

    pub row_more : (w v : ℕ) → w ≡ get_or ws k 0 → v ≡ get_or next k 0 + when (leb left w) 1 →
        set next k v ≡ raised_row (s + 1) ws i left ps
    unfolding raised_by
    row_more w v ew ev =
        let buyer : suc (i - 1) ≡ i = omega arith in
        let here : own (s + 1) (i - 1) s ≡ leb left w =
        rw (
          lt-ltb (i - 1) 6 (omega arith),
          le-leb 1 s one,
          lt-ltb s (s + 1) (omega arith),
          buyer,
          eq-eqb i i refl,
          ne_eqb s 0 (λ z. omega arith),
          ew,
        ) in
        rw so_far
        (risen_set (own s) (own (s + 1)) ps (i - 1) s k v refl few (omega arith) others
        (rw here (ev ∙ ap (λ p. p + when (leb left w) 1) row_at)))
      where
        others : (j u : ℕ) → (j ≡ i - 1 → u ≡ s → ⊥) → own s j u ≡ own (s + 1) j u
        others j u h =
            elim (ℕ_discrete u s) [
              | yes e ↦ rw (ne_eqb i (suc j) (λ z. h (omega arith) e), and-false (ltb u s), and-false (ltb u (s + 1)))
              | no n ↦ rw (ltb_more u s n)
            ]

-- the rows of the members before i
no_member : (m all j s : ℕ) → (ltb j m && (leb 1 s && (ltb s all && false))) ≡ false
no_member m all j s = rw (and-false (ltb s all), and-false (leb 1 s)) (and-false (ltb j m))

module _ (m all : ℕ) (ws : List ℕ) (x : ℕ) (π : ℕ → ℕ) (ps : List ℕ) where
  abbrev before : ℕ → ℕ → Bool
  before i n = ltb n i && member x n

  abbrev rise : ℕ → ℕ → ℕ → Bool
  rise i j s = rising (buyer_rows m) all (worth_table ws) (before i) π j s

  abbrev pub raised_to : ℕ → List ℕ
  raised_to i = raised_by (buyer_rows m) all (worth_table ws) (before i) π ps

  pub rows_long : (i : ℕ) → length (raised_to i) ≡ 96
  rows_long i = raised_long m all (worth_table ws) (before i) π ps

  pub rows_small : (i c : ℕ) → AtMost c ps → AtMost (c + 1) (raised_to i)
  rows_small i c h = raised_small m all (worth_table ws) (before i) π ps c h

  pub rows_none : length ps ≡ 96 → ps ≡ raised_to 1
  unfolding raised_by
  rows_none e = risen_none (rise 1) ps e (λ j s. rw (le-ltb (suc j) 1 (omega arith)) (no_member m all j s))

  module _ (i : ℕ) (lo : 1 ≤ i) (hi : i ≤ m) (few : m ≤ 6) where
    pub rows_in : member x i ≡ true → (next : List ℕ) → next ≡ raised_to i → (left : ℕ) → left ≡ π i →
        raised_row all ws i left next ≡ raised_to (i + 1)
    unfolding raised_by
    rows_in p next so_far left el =
        ap (raised_row all ws i left) so_far
        ∙ (risen_then (rise i) (rise (i + 1)) ps (rising (buyer_rows 6) all (worth_table ws) (eqb i) (λ _. left))
        (λ j s.
        elim (ℕ_discrete i (suc j)) [
          | yes e ↦
              let has : member x (suc j) ≡ true = ap (member x) (sym e) ∙ p in
              let own : left ≡ π (suc j) = el ∙ ap π e in
              rw (
                lt-ltb j m (omega arith),
                lt-ltb j 6 (omega arith),
                le-ltb (suc j) i (omega arith),
                lt-ltb (suc j) (i + 1) (omega arith),
                eq-eqb i (suc j) e,
                has,
                own,
                and-false (ltb s all),
                and-false (leb 1 s),
              )
              (omega arith)
          | no n ↦
              rw (
                ltb_more (suc j) i (λ z. n (sym z)),
                ne_eqb i (suc j) n,
                no_member 6 all j s,
              )
              (omega arith)
        ]))

    pub rows_out : member x i ≡ false → raised_to i ≡ raised_to (i + 1)
    unfolding raised_by
    rows_out p =
        risen_same (rise i) (rise (i + 1)) ps (λ j s.
        elim (ℕ_discrete (suc j) i) [
          | yes e ↦ rw (ap (member x) e ∙ p, and-false (ltb (suc j) i), and-false (ltb (suc j) (i + 1)))
          | no n ↦ rw (ltb_more (suc j) i n)
        ])

  pub rows_end : (i : ℕ) → m < i → raised_to i ≡ raised_by (buyer_rows m) all (worth_table ws) (member x) π ps
  unfolding raised_by
  rows_end i h =
      risen_same (rise i) (rising (buyer_rows m) all (worth_table ws) (member x) π) ps (λ j s.
      by_test (ltb j m)
      (λ e. rw (lt-ltb (suc j) i (omega (arith, ltb-true j m e))))
      (λ e. rw e))
