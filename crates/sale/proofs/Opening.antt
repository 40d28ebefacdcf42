-- A sale's number and place (`sale_number`, `sale_place`), one that accepts (`sale_open`), and one that refuses
-- (`sale_closed`); and of a demand answer, and of whether prices are settled, the same (`demand_number`,
-- `demand_place`, `demand_open`, `demand_closed`; `settled_number`, `settled_place`, `settled_open`, `settled_closed`).
use mathlib.Core.Path.{◌≡◌, refl, sym, ap, ◌∙◌}
use mathlib.Core.Logic.{◌≢◌}
use mathlib.Core.List.{List}
use Prim.Native.Nat.{ℕ, ◌≤◌}
use native.Mathlib.Omega.{arith}
use lib.Dec.{leb}
use lib.ListN.{length}
use borrow.Author.Tests.{eq-eqb, ne_eqb, leb-true}
use Rattle.theory.specs.Lists.{over}
use Rattle.sheet.specs.Sheets.{sheet_of}
use Rattle.sheet.specs.Questions.{fault, between, sheet_fault}
use Rattle.sheet.proofs.Theorems.{place_zero}
use Rattle.sheet.proofs.Forms.{Told, told, asked_none, asked_place}
use Rattle.sale.specs.declared.Sale.{Sale}
use Rattle.sale.specs.declared.Demand.{Demand}
use Rattle.sale.specs.declared.Settled.{Settled}
use Rattle.offers.specs.Offers.{offer_of, demand_set, is_keen}
use Rattle.offers.specs.Rounds.{round_limit, sale_sets}
use Rattle.sale.specs.Answers.{sale_fault, demand_fault, refused_demand, demand_answer, refused_sale, settled_sale}
use Rattle.sale.specs.Answers.{refused_settled, judged, settled_answer, sale_answer, sale_record, SaleSays}

-- a sale that accepts
pub record Open (b o o' : List ℕ) (r : Sale) : Type 0 where
  pub accepted : (sheet_fault b).number ≡ 0
  pub room : round_limit (offer_of b) ≤ length o
  pub answer : r ≡ settled_sale (offer_of b)
  pub bytes : o' ≡ over (sale_sets (offer_of b)) o

module _ (b o o' : List ℕ) (r : Sale) (says : SaleSays b o o' r) where
  sale_told :
      Told (λ (s : Sale). s.number) (λ s. s.place) (settled_sale (offer_of b)) refused_sale (sale_fault b (length o)) r
  unfolding settled_sale refused_sale sale_answer
  sale_told = told _ _ _ _ refl refl (λ g. refl) (λ g. refl) (sale_fault b (length o)) r says.answer

  pub sale_number : r.number ≡ (sale_fault b (length o)).number
  sale_number = sale_told.numbered

  pub sale_place : r.place ≡ (sale_fault b (length o)).place
  sale_place =
      sale_told.placed (asked_place 9 (leb (round_limit (offer_of b)) (length o)) (sheet_fault b) (omega arith))

  pub sale_open : r.number ≡ 0 → Open b o o' r
  unfolding sale_record
  sale_open z =
      let none = sym sale_number ∙ z in
      let (accepted, room) = asked_none 9 (leb (round_limit (offer_of b)) (length o)) (sheet_fault b)
      (omega arith) none in
      record {
        accepted = accepted;
        room = leb-true (round_limit (offer_of b)) (length o) room;
        answer = sale_told.accepted none;
        bytes = says.bytes ∙ rw (eq-eqb (sale_fault b (length o)).number 0 none) refl;
      }

  pub sale_closed : r.number ≢ 0 → (r ≡ refused_sale (fault r.number r.place)) × (o' ≡ o)
  unfolding sale_record
  sale_closed h = (
    sale_told.refused h,
    says.bytes ∙ rw (ne_eqb (sale_fault b (length o)).number 0 (λ z. h (sale_number ∙ z))) refl,
  )

-- a demand answer
module _ (b : List ℕ) (i : ℕ) (ps : List ℕ) where
  abbrev d : Demand
  d = demand_answer b i ps

  abbrev accepted : Demand
  accepted = record { number = 0; place = 0; bundles = demand_set (offer_of b) ps i; keen = is_keen (offer_of b) ps i }

  demand_told : Told (λ (x : Demand). x.number) (λ x. x.place) accepted refused_demand (demand_fault b i) d
  unfolding refused_demand demand_answer
  demand_told = told _ _ _ _ refl refl (λ g. refl) (λ g. refl) (demand_fault b i) d refl

  pub demand_number : d.number ≡ (demand_fault b i).number
  demand_number = demand_told.numbered

  pub demand_place : d.place ≡ (demand_fault b i).place
  demand_place = demand_told.placed (asked_place 10 (between (sheet_of b).buyers i) (sheet_fault b) (omega arith))

  pub demand_open : d.number ≡ 0 → (d.bundles ≡ demand_set (offer_of b) ps i) × (d.keen ≡ is_keen (offer_of b) ps i)
  demand_open z =
      let e = demand_told.accepted (sym demand_number ∙ z) in
      (ap (λ (x : Demand). x.bundles) e, ap (λ (x : Demand). x.keen) e)

  pub demand_closed : d.number ≢ 0 → d ≡ refused_demand (fault d.number d.place)
  demand_closed = demand_told.refused

-- whether prices are settled
module _ (b ps : List ℕ) where
  abbrev x : Settled
  x = settled_answer b ps

  settled_told :
      Told (λ (y : Settled). y.number) (λ y. y.place) (judged (offer_of b) ps) refused_settled (sheet_fault b) x
  unfolding refused_settled judged settled_answer
  settled_told = told _ _ _ _ refl refl (λ g. refl) (λ g. refl) (sheet_fault b) x refl

  pub settled_number : x.number ≡ (sheet_fault b).number
  settled_number = settled_told.numbered

  pub settled_place : x.place ≡ (sheet_fault b).place
  settled_place = settled_told.placed (λ z. place_zero b (omega arith))

  pub settled_open : (sheet_fault b).number ≡ 0 → x ≡ judged (offer_of b) ps
  settled_open = settled_told.accepted

  pub settled_closed : x.number ≢ 0 → x ≡ refused_settled (fault x.number x.place)
  settled_closed = settled_told.refused
