-- The ways out of the question whether prices are settled: a sheet that is refused, and the answer.
use mathlib.Core.Path.{◌≡◌, ap, ◌∙◌}
use mathlib.Core.Bool.{Bool}
use mathlib.Core.List.{List}
use Prim.Native.Nat.{ℕ, ◌^◌}
use lib.Dec.{eqb}
use Rattle.std.specs.Prelude.{Ok, Err}
use Rattle.sheet.specs.declared.LotSheet.{LotSheet}
use Rattle.sheet.specs.declared.Refusal.{Refusal}
use Rattle.sheet.specs.Refusals.{fault_of}
use Rattle.sheet.specs.Answers.{read_as, worths_read}
use Rattle.reading.proofs.Told.{refused_fault, refused_sheet_no}
use Rattle.reading.proofs.Told.{accepted_sheet_yes}
use Rattle.offers.specs.Offers.{Offer, lots_among, lowest}
use Rattle.lists.specs.Words.{lot_words, Lent}
use Rattle.lists.proofs.Packed.{lots_lent}
use Rattle.sale.specs.declared.Settled.{Settled}
use Rattle.sale.specs.Answers.{refused_settled, judged, settled_answer}
use Rattle.selling.proofs.Selling.{sells_regular, same, asked_sheet}

module _ (b : List ℕ) (r : Refusal) (e : read_as (Err r) ≡ worths_read b) (ps : List ℕ) where
  pub settled_refused : (d : Settled) → d ≡ refused_settled (fault_of r) →
      d ≡ settled_answer b ps
  unfolding settled_answer
  settled_refused d q = let no = refused_sheet_no b r e in rw no (q ∙ ap refused_settled (refused_fault b r e))

module _ (b : List ℕ) (t : LotSheet) (e : read_as (Ok t) ≡ worths_read b) (ps : List ℕ) where
  -- x is what the code finds by the words l
  pub settled_told : (l : List ℕ) (all : ℕ) → l ≡ lot_words t.size.buyers t.size.lots →
      all ≡ 2 ^ t.size.lots → (x : Bool) →
      ((O : Offer) → Lent O l t.worths 1 t.size.buyers all → x ≡ eqb (lowest O ps) 0) →
      record { number = 0; place = 0; settled = x } ≡ settled_answer b ps
  unfolding judged settled_answer
  settled_told l all words bundles x is =
      let sells = asked_sheet b t e in
      let lent = lots_lent t.size.buyers t.size.lots l t.worths all sells.few_buyers sells.few_lots
      (sells_regular sells) words bundles in
      rw (accepted_sheet_yes b t e, is (lots_among t.size.buyers t.size.lots t.worths) lent)
      (ap (λ O. judged O ps) (same b t e))
