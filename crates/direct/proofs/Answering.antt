-- The ways out of the direct way: a sheet that is refused, and one that is reckoned.
use mathlib.Core.Path.{◌≡◌, refl, sym, ap, subst, ◌∙◌}
use mathlib.Core.List.{List}
use Prim.Native.Nat.{ℕ, ◌^◌}
use Rattle.std.specs.Prelude.{Ok, Err}
use Rattle.sheet.specs.declared.LotSheet.{LotSheet}
use Rattle.sheet.specs.declared.Refusal.{Refusal}
use Rattle.sheet.specs.Refusals.{fault_of}
use Rattle.sheet.specs.Answers.{read_as, worths_read}
use Rattle.reading.proofs.Told.{refused_fault, refused_sheet_no, accepted_sheet_yes, accepted_sheet_none, accepted_sheet}
use Rattle.offers.specs.Offers.{Offer, lots_among, lots_of}
use Rattle.offers.specs.Claims.{Regular}
use Rattle.offers.proofs.Lots.{regular}
use Rattle.lists.specs.Words.{lot_words, Lent}
use Rattle.lists.proofs.Packed.{lots_lent}
use Rattle.direct.specs.declared.Direct.{Direct}
use Rattle.direct.specs.Answers.{refused_direct, reckoned, direct_answer}

module _ (b : List ℕ) (r : Refusal) (e : read_as (Err r) ≡ worths_read b) where
  pub direct_refused : (d : Direct) → d ≡ refused_direct (fault_of r) → d ≡ direct_answer b
  unfolding direct_answer
  direct_refused d q = rw (refused_sheet_no b r e) (q ∙ ap refused_direct (refused_fault b r e))

module _ (b : List ℕ) (s : LotSheet) (e : read_as (Ok s) ≡ worths_read b) where
  abbrev O : Offer
  O = lots_among s.size.buyers s.size.lots s.worths

  -- an answer for whatever offer the words are of
  pub direct-reckoned : (l : List ℕ) → l ≡ lot_words s.size.buyers s.size.lots → (d : Direct) →
      ((O : Offer) (all : ℕ) → Lent O l s.worths 1 s.size.buyers all → d ≡ reckoned O) → d ≡ direct_answer b
  unfolding direct_answer
  direct-reckoned l words d is =
      let same = accepted_sheet b s e in
      let good : Regular O = subst (λ w. Regular (lots_of w)) (sym same) (regular b (accepted_sheet_none b s e)) in
      let lent =
      lots_lent s.size.buyers s.size.lots l s.worths (2 ^ s.size.lots) s.size.small.0 s.size.small.1 good words refl in
      rw (accepted_sheet_yes b s e) (is O (2 ^ s.size.lots) lent ∙ ap (λ w. reckoned (lots_of w)) same)
