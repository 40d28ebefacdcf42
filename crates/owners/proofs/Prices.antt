-- A list of prices that `Holds` a sale's payoffs quotes as they do (`best_is`, `wants_same`, `keen_same`), and a round
-- raises it as it lowers them (`raised_holds`); places that nobody reads (`unread`) keep what they hold
-- (`raised-unread`). At any `Fair` prices the answers are by payoffs (`quote_answers`). Tables are read by the bidders'
-- rows (`entry_row`). Assumes bidders with rows and an empty bundle of no worth.
use mathlib.Core.Path.{◌≡◌, refl, sym, ap, ◌∙◌}
use mathlib.Core.Logic.{◌⊎◌, inl, inr}
use mathlib.Core.Bool.{Bool, true, false, not, ◌&&◌}
use mathlib.Core.List.{List}
use Prim.Native.Nat.{ℕ, suc, ◌+◌, ◌-◌, ◌*◌, ◌/◌, ◌%◌, ◌≤◌, ◌<◌}
use native.Mathlib.Nat.{zero-add}
use native.Mathlib.Omega.{arith}
use native.Mathlib.Decide.{ℕ_discrete}
use lib.Dec.{eqb, ltb, leb}
use lib.ListN.{length, get_or, get_or-replicate}
use borrow.Author.Tests.{le-leb, lt-leb, lt-ltb, le-ltb, ltb-true, ne_eqb, eqb-false}
use Rattle.theory.specs.Sums.{when}
use Rattle.theory.specs.Lists.{up_to}
use Rattle.theory.specs.Markets.{Market, Table, Bidder, asks, lower}
use Rattle.theory.specs.Auction.{own}
use Rattle.theory.specs.Universal.{Answers}
use Rattle.theory.proofs.Tests.{by_test, same_test, not_means, means_via, eqb_means, leb_means}
use Rattle.theory.proofs.Lists.{most_same, most_upper, most-reached, up_to_in, up_to_from, tabulate-at, tabulate-length}
use Rattle.theory.proofs.Ascent.{asks-best, asks-raised}
use Rattle.owners.specs.Prices.{Layout, LaidOut, buyer_rows, zeros, price, payoff, best, quote, read, raised_at}
use Rattle.owners.specs.Prices.{raised, entry, layout, Holds}

-- what stands in a table for a bidder stands in its row
pub entry_row : (low m i : ℕ) → low ≤ i → (t : List ℕ) (s : ℕ) → entry t i s ≡ price (layout low m) t i s
entry_row low m i r t s =
    by_test (eqb low 0) (λ e. rw e refl)
    (λ e. rw (e, ne_eqb i 0 (λ z. eqb-false low 0 e (omega arith))) refl)

-- no payoff is cut off
abbrev pub Fair : (L : Layout) {A : Type 0} → Market A → ℕ → Table → List ℕ → Type 0
Fair L M all v ps = (i : ℕ) → Bidder M i → (s : ℕ) → s < all → price L ps i s ≤ v i s + 65535

-- bidders with rows, few bundles, `top` one of them, and an empty bundle worth nothing
pub record Priced {A : Type 0} (M : Market A) (L : Layout) (bits all top : ℕ) (v : Table) : Type 0 where
  pub laid_out : LaidOut L M.many M.low bits
  pub small : all ≤ 16
  pub topped : top < all
  pub free : (i : ℕ) → Bidder M i → v i 0 ≡ 0

-- prices up to 65,535 are fair; and so are a sale's own
pub small_fair : {A : Type 0} (M : Market A) (L : Layout) (all : ℕ) (v : Table) (ps : List ℕ) →
    ((k : ℕ) → get_or ps k 0 ≤ 65535) → Fair L M all v ps
small_fair M L all v ps small i r s h =
    by_test (eqb s 0) (λ e. rw e (omega arith)) (λ e. rw e (omega (arith, small (16 * L.row_of i + s))))

-- a place of an absent buyer, of the empty bundle or of an absent one
pub unread : (m all k : ℕ) → (m ≤ k / 16) ⊎ ((k % 16 ≡ 0) ⊎ (all ≤ k % 16)) → read (buyer_rows m) all k ≡ false
unread m all k none =
    let s = k - 16 * (k / 16) in
    by_test (ltb (k / 16) m)
    (λ t. elim none [
      | inl h ↦ absurd (omega (arith, ltb-true (k / 16) m t))
      | inr (inl h) ↦ rw (t, lt-leb 1 s (omega arith)) refl
      | inr (inr h) ↦ by_test (leb 1 s) (λ u. rw (t, u, le-ltb s all (omega arith)) refl) (λ u. rw (t, u) refl)
    ])
    (λ t. rw t refl)

-- such places keep what they hold
pub raised-unread : (L : Layout) (all : ℕ) (v : Table) (set : ℕ → Bool) (ps : List ℕ) (k : ℕ) →
    k < 16 * L.rows → read L all k ≡ false → get_or (raised L all v set ps) k 0 ≡ get_or ps k 0
raised-unread L all v set ps k h e =
    tabulate-at (16 * L.rows) 0 (λ k. raised_at L all v set ps k (k / 16) (k - 16 * (k / 16))) k 0 h
    ∙ rw zero-add
    (by_test (L.taken (k / 16))
    (λ p. by_test (leb 1 (k - 16 * (k / 16)))
    (λ q. let r : ltb (k - 16 * (k / 16)) all ≡ false = rw (p, q) at e in rw (p, q, r) (omega arith))
    (λ q. rw (p, q) (omega arith)))
    (λ p. rw p (omega arith)))

pub raised_long : (L : Layout) (all : ℕ) (v : Table) (set : ℕ → Bool) (ps : List ℕ) →
    length (raised L all v set ps) ≡ 16 * L.rows
raised_long L all v set ps =
    tabulate-length (16 * L.rows) 0 (λ k. raised_at L all v set ps k (k / 16) (k - 16 * (k / 16)))

pub holds_fair : {A : Type 0} (M : Market A) (L : Layout) (all top : ℕ) (v : Table) (ps : List ℕ) (π : ℕ → ℕ) →
    Holds M L all top v ps π → Fair L M all v ps
holds_fair M L all top v ps π holds i r s h = omega (arith, holds.prices i r s h)

module _ {A : Type 0} {M : Market A} {L : Layout} {bits all top : ℕ} {v : Table}
    (priced : Priced M L bits all top v) where
  module _ (ps : List ℕ) (i : ℕ) (bidder : Bidder M i) where
    best-least : 65535 ≤ best L all v ps i
    best-least =
        omega (arith, priced.free i bidder, most_upper (payoff L v ps i) (up_to_in all 0 {i = 0} (omega arith)))

    -- keen is who does not want the empty bundle
    pub keen_wants : (quote L all v ps).keen i ≡ not ((quote L all v ps).wants i 0)
    keen_wants =
        let wants = not_means (eqb_means (v i 0 + 65535 - 0) (best L all v ps i)) in
        same_test _ _
        (λ e. wants.1 (λ z. omega (arith, priced.free i bidder, (leb_means (suc 65535) (best L all v ps i)).0 e)))
        (λ e. (leb_means (suc 65535) (best L all v ps i)).1 (let z = wants.0 e in
        elim (ℕ_discrete (v i 0 + 65535 - 0) (best L all v ps i)) [
          | yes q ↦ absurd (z q)
          | no q ↦ omega
              (arith, best-least, priced.free i bidder)
        ]))

  -- at any prices that make no payoff less than -65,535
  pub quote_answers : (ps : List ℕ) → Fair L M all v ps →
      Answers M (λ s. s < all) v (λ i. best L all v ps i - 65535) (quote L all v ps)
  quote_answers ps fair =
      record {
        covered =
            λ i r s h. omega (arith, fair i r s h, most_upper (payoff L v ps i) (up_to_in all 0 {i = s} (omega arith)));
        reached = λ i r.
            let (s, h, e) = most-reached (payoff L v ps i) (up_to_in all 0 {i = 0} (omega arith)) in
            let below : s < all = omega (arith, up_to_from all 0 h) in
            (s, below, omega (arith, fair i r s below, best-least ps i r));
        wanted = λ i r s h.
            let f = fair i r s h in
            let b = best-least ps i r in
            means_via (eqb_means (payoff L v ps i s) (best L all v ps i)) (λ e. omega arith) (λ e. omega arith);
        eager = λ i r.
            let b = best-least ps i r in
            means_via (leb_means (suc 65535) (best L all v ps i)) (λ e. omega arith) (λ e. omega arith);
        free = λ i r. (priced.free i r, omega arith);
      }

  module _ (ps : List ℕ) (π : ℕ → ℕ) (holds : Holds M L all top v ps π) (i : ℕ) (bidder : Bidder M i) where
    pub best_is : best L all v ps i ≡ π i + 65535
    best_is =
        most_same (payoff L v ps i) (λ s. v i s + 65535 - asks v π i s) (up_to all 0)
        (λ s h. ap (λ p. v i s + 65535 - p) (holds.prices i bidder s (omega (arith, up_to_from all 0 h))))
        ∙ asks-best v π i 65535 (up_to_in all 0 (omega arith)) (holds.modest i bidder)

    pub wants_same : (s : ℕ) → s < all → (quote L all v ps).wants i s ≡ (own v π).wants i s
    wants_same s h =
        rw (best_is, holds.prices i bidder s h)
        (same_test _ _
        (λ e. (leb_means (π i) (v i s)).1 (omega (arith, (eqb_means (v i s + 65535 - asks v π i s) (π i + 65535)).0 e)))
        (λ e. (eqb_means (v i s + 65535 - asks v π i s) (π i + 65535)).1
        (omega (arith, (leb_means (π i) (v i s)).0 e))))

    pub keen_same : (quote L all v ps).keen i ≡ (own v π).keen i
    keen_same =
        rw best_is
        (same_test _ _
        (λ e. (leb_means 1 (π i)).1 (omega (arith, (leb_means (suc 65535) (π i + 65535)).0 e)))
        (λ e. (leb_means (suc 65535) (π i + 65535)).1 (omega (arith, (leb_means 1 (π i)).0 e))))

  price-at : (ps : List ℕ) (i s : ℕ) → 1 ≤ s → price L ps i s ≡ get_or ps (16 * L.row_of i + s) 0
  price-at ps i s h = rw (ne_eqb s 0 (λ z. omega arith))

  -- the place of a row and a bundle
  row : (j s : ℕ) → s < 16 → (0 + (16 * j + s)) / 16 ≡ j
  row j s h = omega arith

  column : (j s : ℕ) → 0 + (16 * j + s) - 16 * j ≡ s
  column j s = omega arith

  pub raised-price : (set : ℕ → Bool) (ps : List ℕ) (i s : ℕ) → Bidder M i → 1 ≤ s → s < all →
      price L (raised L all v set ps) i s ≡ price L ps i s + when (set i && (quote L all v ps).wants i s) 1
  raised-price set ps i s r l h =
      let (j, t, back) = priced.laid_out.each_bidder i r in
      price-at (raised L all v set ps) i s l
      ∙ tabulate-at (16 * L.rows) 0 (λ k. raised_at L all v set ps k (k / 16) (k - 16 * (k / 16)))
      (16 * L.row_of i + s) 0
      (omega (arith, priced.laid_out.enough))
      ∙ rw (
        row (L.row_of i) s (omega arith),
        column (L.row_of i) s,
        t,
        back,
        le-leb 1 s l,
        lt-ltb s all h,
        price-at ps i s l,
        zero-add,
      )

  pub raised_holds : (set : ℕ → Bool) (ps : List ℕ) (π : ℕ → ℕ) → ((i : ℕ) → Bidder M i → set i ≡ true → 1 ≤ π i) →
      Holds M L all top v ps π → Holds M L all top v (raised L all v set ps) (lower set π)
  raised_holds set ps π keen holds =
      record {
        modest = λ i r. omega (arith, holds.modest i r);
        prices = λ i r s h.
            elim (ℕ_discrete s 0) [
              | yes z ↦ rw z (omega (arith, priced.free i r))
              | no z ↦
                  raised-price set ps i s r (omega arith) h
                  ∙ rw (wants_same ps π holds i r s h, holds.prices i r s h)
                  (sym (asks-raised v π i set (keen i r) s))
            ];
      }

  -- the sale's first prices
  zero_price : (i s : ℕ) → Bidder M i → s < all → price L (zeros L) i s ≡ 0
  zero_price i s r h =
      by_test (eqb s 0)
      (λ e. rw e)
      (λ e. rw e
      (get_or-replicate (16 * L.rows) (16 * L.row_of i + s) 0 0
      (omega (arith, priced.laid_out.each_bidder i r, priced.laid_out.enough))))

  pub zeros_hold : ((i : ℕ) → Bidder M i → (s : ℕ) → s < all → v i s ≤ v i top) →
      Holds M L all top v (zeros L) (λ i. v i top)
  zeros_hold topmost =
      record { modest = λ i r. omega arith; prices = λ i r s h. omega (arith, zero_price i s r h, topmost i r s h) }

  -- the payoffs can be read off the prices of the bundle of all
  pub reads_hold : (ps : List ℕ) (π : ℕ → ℕ) → Holds M L all top v ps π →
      Holds M L all top v ps (λ i. v i top - price L ps i top)
  reads_hold ps π holds =
      record {
        modest = λ i r. omega arith;
        prices =
            λ i r s h. omega (arith, holds.modest i r, holds.prices i r top priced.topped, holds.prices i r s h);
      }
