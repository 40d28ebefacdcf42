-- The direct way's number and place (`direct-number`, `direct_place`), where it accepts (`direct_open`), and where it
-- refuses (`direct_closed`).
use mathlib.Core.Path.{◌≡◌, refl, sym, ◌∙◌}
use mathlib.Core.Logic.{◌≢◌}
use mathlib.Core.List.{List}
use Prim.Native.Nat.{ℕ}
use native.Mathlib.Omega.{arith}
use Rattle.offers.specs.Offers.{offer_of}
use Rattle.sheet.specs.Questions.{fault, sheet_fault}
use Rattle.sheet.proofs.Theorems.{place_zero}
use Rattle.sheet.proofs.Forms.{Told, told}
use Rattle.direct.specs.declared.Direct.{Direct}
use Rattle.direct.specs.Answers.{refused_direct, reckoned, direct_answer}

-- an answer of the direct way
module _ (b : List ℕ) (d : Direct) (e : d ≡ direct_answer b) where
  direct-told : Told (λ (s : Direct). s.number) (λ s. s.place) (reckoned (offer_of b)) refused_direct (sheet_fault b) d
  unfolding reckoned refused_direct direct_answer
  direct-told = told _ _ _ _ refl refl (λ g. refl) (λ g. refl) (sheet_fault b) d e

  pub direct-number : d.number ≡ (sheet_fault b).number
  direct-number = direct-told.numbered

  pub direct_place : d.place ≡ (sheet_fault b).place
  direct_place = direct-told.placed (λ z. place_zero b (omega arith))

  pub direct_open : d.number ≡ 0 → ((sheet_fault b).number ≡ 0) × (d ≡ reckoned (offer_of b))
  direct_open z = let none = sym direct-number ∙ z in (none, direct-told.accepted none)

  pub direct_closed : d.number ≢ 0 → d ≡ refused_direct (fault d.number d.place)
  direct_closed = direct-told.refused
