-- The ways out of a demand answer: a sheet that is refused, a buyer that is not there, and the answer.
use mathlib.Core.Path.{◌≡◌, sym, ap, ◌∙◌}
use mathlib.Core.Bool.{Bool, true, false}
use mathlib.Core.List.{List}
use Prim.Native.Nat.{ℕ, ◌^◌}
use native.Mathlib.Omega.{arith}
use Rattle.owners.specs.Prices.{demand_set}
use Rattle.demand.specs.Demands.{quoted}
use Rattle.demand.proofs.Demands.{demand_set_is, keen_is}
use Rattle.std.specs.Prelude.{Ok, Err}
use Rattle.sheet.specs.declared.LotSheet.{LotSheet}
use Rattle.sheet.specs.declared.Refusal.{Refusal}
use Rattle.sheet.specs.Sheets.{Sheet, sheet_of}
use Rattle.sheet.specs.Questions.{fault, between}
use Rattle.sheet.specs.Refusals.{fault_of}
use Rattle.sheet.specs.Answers.{read_as, worths_read}
use Rattle.reading.proofs.Told.{refused_fault, refused_sheet_no}
use Rattle.reading.proofs.Told.{accepted_sheet_yes, accepted_sheet}
use Rattle.reading.proofs.Asking.{between_ends}
use Rattle.offers.specs.Offers as offers
use Rattle.sale.specs.declared.Demand.{Demand}
use Rattle.sale.specs.Answers.{refused_demand, demand_answer}

module _ (b : List ℕ) (r : Refusal) (e : read_as (Err r) ≡ worths_read b) where
  pub demand_refused : (i : ℕ) (ps : List ℕ) → (d : Demand) →
      d ≡ refused_demand (fault_of r) → d ≡ demand_answer b i ps
  unfolding demand_answer
  demand_refused i ps d q =
      let no = refused_sheet_no b r e in rw (no, no) (q ∙ ap refused_demand (refused_fault b r e))

module _ (b : List ℕ) (t : LotSheet) (e : read_as (Ok t) ≡ worths_read b) (i : ℕ) (ps : List ℕ) where
  same_buyers : t.size.buyers ≡ (sheet_of b).buyers
  same_buyers = ap (λ (w : Sheet). w.buyers) (accepted_sheet b t e)

  there : (x : Bool) → between t.size.buyers i ≡ x → between (sheet_of b).buyers i ≡ x
  there x q = ap (λ m. between m i) (sym same_buyers) ∙ q

  pub demand_nobody : between t.size.buyers i ≡ false → (d : Demand) → d ≡ refused_demand (fault 10 0) →
      d ≡ demand_answer b i ps
  unfolding demand_answer
  demand_nobody q d h = rw (accepted_sheet_yes b t e, there false q) h

  -- the answer made of those of the functions of demand
  pub demand_told : between t.size.buyers i ≡ true → (all x : ℕ) (y : Bool) → all ≡ 2 ^ t.size.lots →
      x ≡ demand_set all (quoted all t.worths ps) i → y ≡ (quoted all t.worths ps).keen i →
      record { number = 0; place = 0; bundles = x; keen = y } ≡ demand_answer b i ps
  unfolding demand_answer
  demand_told q all x y ea ex ey =
      let O = offers.lots_among t.size.buyers t.size.lots t.worths in
      let (low, high) = between_ends t.size.buyers i q in
      let here : offers.Bids O i = omega arith in
      let set : x ≡ offers.demand_set O ps i =
      ex ∙ ap (λ n. demand_set n (quoted n t.worths ps) i) ea ∙ demand_set_is O i here ps in
      let keen : y ≡ offers.is_keen O ps i =
      ey ∙ ap (λ n. (quoted n t.worths ps).keen i) ea ∙ keen_is O i here ps in
      rw (accepted_sheet_yes b t e, there true q, set, keen)
      (ap (λ w. record {
        number = 0;
        place = 0;
        bundles = offers.demand_set (offers.lots_of w) ps i;
        keen = offers.is_keen (offers.lots_of w) ps i;
      }) (accepted_sheet b t e))
