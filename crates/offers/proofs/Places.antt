-- Six places, one to a buyer: with a buyer (`place_taken`), and all of them (`per_buyer_same`, `per_buyer-at`,
-- `per_buyer_past`). Four for the owners: those there are (`four_short`), then zeros
-- (`four_past`), which change no buyer's bundle (`four_bundle`).
use mathlib.Core.Path.{◌≡◌, refl, sym, ap, ◌∙◌}
use mathlib.Core.List.{List}
use Prim.Native.Nat.{ℕ, suc, ◌+◌, ◌-◌, ◌≤◌, ◌<◌}
use native.Mathlib.Nat.{zero-add}
use native.Mathlib.Numerals.{add-one}
use native.Mathlib.Omega.{arith}
use native.Mathlib.Decide.{dec_lt}
use lib.Dec.{ltb}
use lib.ListN.{length, take, get_or, replicate, get_or-eq_default}
use lib.Seq.{take_at, get_or-append-add}
use borrow.Author.Tests.{lt-ltb, le-ltb, ltb-true}
use Rattle.theory.specs.Lists.{tabulate}
use Rattle.theory.proofs.Lists.{tabulate-at, tabulate_same, tabulate-length, zeros-at}
use Rattle.theory.proofs.Tests.{by_test}
use Rattle.owners.specs.Owners.{bundle_from}
use Rattle.owners.proofs.Owners.{bundle_past}
use Rattle.offers.specs.Places.{four, at_place, per_buyer}

pub place_taken : (m : ℕ) (f : ℕ → ℕ) (k : ℕ) → k < m → at_place m f k ≡ f (k + 1)
place_taken m f k h = rw (lt-ltb k m h, add-one k) refl

pub per_buyer_same : (m : ℕ) (f g : ℕ → ℕ) → m ≤ 6 → ((k : ℕ) → k < m → f (suc k) ≡ g (suc k)) → per_buyer m f
    ≡ per_buyer m g
unfolding per_buyer
per_buyer_same m f g few h =
    tabulate_same 6 0 (at_place m f) (at_place m g)
    (λ k r. by_test (ltb k m) (λ e. rw (e, h k (ltb-true k m e))) (λ e. rw e))

pub per_buyer-at : (m : ℕ) (f : ℕ → ℕ) (k : ℕ) → m ≤ 6 → k < m → get_or (per_buyer m f) k 0 ≡ f (suc k)
unfolding per_buyer
per_buyer-at m f k few h = tabulate-at 6 0 (at_place m f) k 0 (omega arith) ∙ rw (zero-add k, lt-ltb k m h) refl

pub per_buyer_past : (m : ℕ) (f : ℕ → ℕ) (k : ℕ) → m ≤ k → get_or (per_buyer m f) k 0 ≡ 0
unfolding per_buyer
per_buyer_past m f k h =
    elim (dec_lt k 6) [
      | yes l ↦ tabulate-at 6 0 (at_place m f) k 0 l ∙ rw (zero-add k, le-ltb k m h) refl
      | no l ↦ get_or-eq_default (tabulate 6 0 (at_place m f)) 0 {n = k}
          (omega (arith, tabulate-length 6 0 (at_place m f)))
    ]

-- four places: the owners, and zeros behind them, which change no buyer's bundle
module _ (a : List ℕ) where
  pub four_short : (n : ℕ) → length a ≡ n → take n (four a) ≡ a
  four_short n e = take_at a (replicate (4 - length a) 0) n e

  pub four_past : (j : ℕ) → length a ≤ j → get_or (four a) j 0 ≡ 0
  four_past j h =
      let e : length a + (j - length a) ≡ j = omega arith in
      ap (λ k. get_or (four a) k 0) (sym e) ∙ get_or-append-add a (replicate (4 - length a) 0) (j - length a) 0
      ∙ zeros-at (4 - length a) (j - length a)

  pub four_bundle : (share : ℕ → ℕ) (i : ℕ) → 1 ≤ i → bundle_from share 0 i (four a) ≡ bundle_from share 0 i a
  four_bundle share i some =
      sym (bundle_past share 0 i (length a) (four a) some four_past)
      ∙ ap (bundle_from share 0 i) (four_short (length a) refl)
