-- The ways out of reading a sheet whole: refused, by the first line or by the lines, and accepted; and what the answers
-- say of the sheet's fault.
use mathlib.Core.Path.{◌≡◌, refl, sym, ap, ◌∙◌}
use mathlib.Core.Bool.{false}
use mathlib.Core.List.{List}
use Prim.Native.Nat.{ℕ}
use native.Mathlib.Omega.{arith}
use lib.ListN.{length, get_or}
use borrow.Author.Tests.{eq-eqb}
use Rattle.sheet.specs.declared.Fault.{Fault}
use Rattle.sheet.specs.declared.Refusal.{Refusal}
use Rattle.sheet.specs.declared.Refusal.TheVariants.{Short, Head, Buyers, Lots, Length, Malformed, TooLarge, Falls}
use Rattle.sheet.specs.declared.Refusal.TheVariants.{Record, Buyer, Room}
use Rattle.sheet.specs.declared.size.Size.{Size}
use Rattle.sheet.specs.declared.Worths.{Worths}
use Rattle.sheet.specs.Sheets.{Sheet, as_sheet, worths_in, sheet_of}
use Rattle.sheet.specs.Questions.{fault, accepts, lines_fault, sheet_fault}
use Rattle.sheet.specs.Refusals.{fault_of}
use Rattle.sheet.specs.Answers.{refusal, refused_worths, worths_by, worths_read, sheet_read}
use Rattle.reading.specs.Steps.{Small, Passed}
use Rattle.sheet.proofs.Theorems.{accepted_shape, place_zero}

pub refused_no : (r : Refusal) → accepts (fault_of r) ≡ false
refused_no Short = refl
refused_no Head = refl
refused_no Buyers = refl
refused_no Lots = refl
refused_no Length = refl
refused_no (Malformed p) = refl
refused_no (TooLarge p) = refl
refused_no (Falls p) = refl
refused_no Record = refl
refused_no Buyer = refl
refused_no Room = refl

refusal_is : (r : Refusal) (w : Sheet) → refused_worths r ≡ worths_by (fault_of r) w
unfolding refusal worths_by
refusal_is r w = rw (refused_no r)

module _ (b : List ℕ) where
  pub refused_sheet : (r : Refusal) → sheet_fault b ≡ fault_of r → refused_worths r ≡ worths_read b
  unfolding worths_read
  refused_sheet r e = refusal_is r (sheet_of b) ∙ ap (λ f. worths_by f (sheet_of b)) (sym e)

  -- the first line passes; ws are the numbers read
  module _ (s : Size) (p : Passed b s) (ws : List ℕ) (ews : ws ≡ worths_in s.buyers s.lots b) where
    sheet_is : as_sheet s.buyers s.lots ws ≡ sheet_of b
    sheet_is = rw (ews, p.buyers, p.lots)

    fault_is : (g : Fault) → g ≡ lines_fault b (as_sheet s.buyers s.lots ws) → sheet_fault b ≡ g
    fault_is g e = p.rest ∙ sym (e ∙ ap (lines_fault b) sheet_is)

    pub refused_lines : (r : Refusal) → fault_of r ≡ lines_fault b (as_sheet s.buyers s.lots ws) →
        refused_worths r ≡ worths_read b
    refused_lines r e = refused_sheet r (fault_is (fault_of r) e)

    module _ (e : fault 0 0 ≡ lines_fault b (as_sheet s.buyers s.lots ws)) where
      accepted : (sheet_fault b).number ≡ 0
      accepted = ap (λ (f : Fault). f.number) (fault_is (fault 0 0) e)

      worths_are : ws ≡ (sheet_of b).worths
      worths_are = ap (λ (w : Sheet). w.worths) sheet_is

      pub small_worths : Small ws
      small_worths =
          let s = accepted_shape b accepted in
          record {
            long = ap length worths_are ∙ s.long;
            small = λ k. omega (arith, s.small k, ap (λ l. get_or l k 0) worths_are);
          }

      pub accepted_worths : (t : List ℕ) → t ≡ ws →
          record { number = 0; place = 0; buyers = s.buyers; lots = s.lots; worths = t } ≡ worths_read b
      unfolding worths_read worths_by
      accepted_worths t et =
          rw (
            eq-eqb (sheet_fault b).number 0 accepted,
            accepted,
            place_zero b (omega (arith, accepted)),
            ← worths_are,
            et,
            p.buyers,
            p.lots,
          )

pub read_only : (b : List ℕ) (r : Worths) → r ≡ worths_read b →
    record { number = r.number; place = r.place; buyers = r.buyers; lots = r.lots } ≡ sheet_read b
unfolding sheet_read
read_only b r e =
    ap (λ (x : Worths). record { number = x.number; place = x.place; buyers = x.buyers; lots = x.lots }) e

-- what an answer of `read_worths` says, to its callers
pub record Accepted (b : List ℕ) (r : Worths) : Type 0 where
  pub none : (sheet_fault b).number ≡ 0
  pub buyers : r.buyers ≡ (sheet_of b).buyers
  pub lots : r.lots ≡ (sheet_of b).lots
  pub worths : r.worths ≡ (sheet_of b).worths

pub read_refused : (b : List ℕ) (r : Worths) → r ≡ worths_read b → fault r.number r.place ≡ sheet_fault b
unfolding worths_read worths_by
read_refused b r e = ap (λ (x : Worths). fault x.number x.place) e

pub read_accepted : (b : List ℕ) (r : Worths) → r ≡ worths_read b → r.number ≡ 0 → Accepted b r
unfolding worths_read worths_by
read_accepted b r e z =
    let none : (sheet_fault b).number ≡ 0 = ap (λ (x : Worths). x.number) (sym e) ∙ z in
    let test = eq-eqb (sheet_fault b).number 0 none in
    record {
      none = none;
      buyers = ap (λ (x : Worths). x.buyers) e ∙ rw test;
      lots = ap (λ (x : Worths). x.lots) e ∙ rw test;
      worths = ap (λ (x : Worths). x.worths) e ∙ rw test;
    }
