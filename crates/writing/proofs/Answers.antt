-- What `write_sheet` answers and leaves in the buffer: a refusal (`says_refused`), or a sheet that is written
-- (`says_written`; `fills_sized` and `says_sized`, by its size), in two parts (`parts_written`); and what an answer of either kind tells (`Told`, `told`,
-- `write_told`).
use mathlib.Core.Path.{◌≡◌, sym, ap, ap₂, subst₂, ◌∙◌}
use mathlib.Core.Logic.{◌≢◌}
use mathlib.Core.Bool.{Bool, true, false}
use mathlib.Core.List.{List, [], ◌∷◌}
use Prim.Native.Nat.{ℕ, ◌+◌, ◌-◌, ◌*◌, ◌≤◌}
use native.Mathlib.Nat.{mul_comm}
use native.Mathlib.Omega.{arith}
use lib.ListN.{length, take, drop}
use borrow.Author.Tests.{eq-eqb, ne_eqb}
use borrow.Rule.Slice.PartMut.{put_mid}
use Rattle.theory.specs.Sums.{pick, when}
use Rattle.theory.specs.Lists.{over}
use Rattle.theory.proofs.Over.{over_then}
use Rattle.fields.specs.Fields.{line_of}
use Rattle.fields.proofs.Lines.{line-length, lines-length}
use Rattle.sheet.specs.declared.Fault.{Fault}
use Rattle.sheet.specs.declared.Refusal.{Refusal}
use Rattle.sheet.specs.declared.Size.{Size}
use Rattle.sheet.specs.Sheets.{line_length, line_worths}
use Rattle.sheet.specs.Questions.{fault, accepts}
use Rattle.sheet.specs.Refusals.{fault_of}
use Rattle.sheet.proofs.Writing.{bytes_written, row_long}
use Rattle.writing.specs.declared.Wrote.{Wrote}
use Rattle.writing.specs.Lists.{list_sheet, Fills, row_bytes, sheet_bytes}
use Rattle.writing.specs.Answers.{IsSize, write_fault, WriteSays, refused_wrote}
use Rattle.writing.proofs.Asking.{refused_some}
use Rattle.writing.proofs.Questions.{write_all_yes, write_place}

pub sheet_length : (m n : ℕ) (vs : List ℕ) → length (sheet_bytes m n vs) ≡ 13 + m * line_length n
unfolding sheet_bytes
sheet_length m n vs = (bytes_written (list_sheet m n vs)).long

-- the first line, then the lines of worths
module _ (m n : ℕ) (vs o l last : List ℕ) (room : 13 + m * line_length n ≤ length o)
    (e : l ≡ over (line_of (m ∷ n ∷ [])) o) where
  pub parts_written :
      last ≡ over (row_bytes m n vs) (take (length l - 13) (drop 13 l)) →
      put_mid 13 (length l - 13) l last ≡ over (sheet_bytes m n vs) o
  unfolding sheet_bytes
  parts_written g =
      let long = lines-length (line_worths (list_sheet m n vs)) (line_length n) (row_long (list_sheet m n vs)) m 0 in
      over_then (line_of (m ∷ n ∷ [])) (row_bytes m n vs) o l last 13 (line-length (m ∷ n ∷ []))
      (omega (arith, long, mul_comm m (line_length n))) e g

abbrev pub wrote : ℕ → ℕ → ℕ → Wrote
wrote number place long = record { number = number; place = place; length = long }

-- the answer and the buffer, by the fault and the bytes of the sheet
abbrev pub answer_by : Fault → List ℕ → Wrote
answer_by f b = wrote f.number f.place (when (accepts f) (length b))

abbrev pub buffer_by : Fault → List ℕ → List ℕ → List ℕ
buffer_by f b o = pick (accepts f) (over b o) o

-- what they tell, where a fault has no place
pub record Told (f : Fault) (b o o' : List ℕ) (r : Wrote) : Type 0 where
  pub number : r.number ≡ f.number
  pub place : r.place ≡ 0
  pub refused : r.number ≢ 0 → (r.length ≡ 0) × (o' ≡ o)
  pub written : r.number ≡ 0 → (r.length ≡ length b) × (o' ≡ over b o)

pub told : (f : Fault) (b o o' : List ℕ) (r : Wrote) → f.place ≡ 0 → r ≡ answer_by f b → o' ≡ buffer_by f b o →
    Told f b o o' r
told f b o o' r none answer bytes =
    let same = ap (λ (x : Wrote). x.number) answer in
    record {
      number = same;
      place = ap (λ (x : Wrote). x.place) answer ∙ none;
      refused = λ h. known false (ne_eqb f.number 0 (λ z. h (same ∙ z)));
      written = λ z. known true (eq-eqb f.number 0 (sym same ∙ z));
    }
  where
    known : (t : Bool) → accepts f ≡ t → (r.length ≡ when t (length b)) × (o' ≡ pick t (over b o) o)
    known t e = (
      ap (λ (x : Wrote). x.length) answer ∙ ap (λ x. when x (length b)) e,
      bytes ∙ ap (λ x. pick x (over b o) o) e,
    )

module _ (m n : ℕ) (vs o : List ℕ) where
  abbrev f : Fault
  f = write_fault m n vs (length o)

  abbrev b : List ℕ
  b = sheet_bytes m n vs

  pub says_refused : (r : Refusal) → fault_of r ≡ f → WriteSays m n vs o o (refused_wrote r)
  says_refused r e =
      let t = ne_eqb f.number 0 (λ z. refused_some r (ap (λ (g : Fault). g.number) e ∙ z)) in
      record {
        answer =
            ap (λ (g : Fault). wrote g.number g.place 0) e
            ∙ ap (λ x. wrote f.number f.place (when x (length b))) (sym t);
        bytes = ap (λ x. pick x (over b o) o) (sym t);
      }

  pub says_written : (k : ℕ) (o' : List ℕ) → 0 ≡ f.number → k ≡ 13 + m * line_length n → o' ≡ over b o →
      WriteSays m n vs o o' (wrote 0 0 k)
  says_written k o' z ek eo =
      let t = eq-eqb f.number 0 (sym z) in
      record {
        answer =
            ap (λ x. wrote x 0 k) z ∙ ap (λ x. wrote f.number x k) (sym (write_place m n vs (length o)))
            ∙ ap (wrote f.number f.place) (ek ∙ sym (sheet_length m n vs))
            ∙ ap (λ x. wrote f.number f.place (when x (length b))) (sym t);
        bytes = eo ∙ ap (λ x. pick x (over b o) o) (sym t);
      }

  -- by the size that the questions leave
  module _ (size : Size) (is : IsSize m n size) (none : fault 0 0 ≡ f) where
    pub fills_sized : Fills size.buyers size.lots vs × (13 + size.buyers * line_length size.lots ≤ length o)
    fills_sized =
        let yes_to = (write_all_yes m n vs (length o)).0 (sym (ap (λ (g : Fault). g.number) none)) in
        subst₂ (λ x y. Fills x y vs × (13 + x * line_length y ≤ length o)) (sym is.0) (sym is.1) (
          record {
            few_buyers = (yes_to 0).1;
            few_lots = (yes_to 1).1;
            right = yes_to 2;
            small = λ k. omega (arith, yes_to 3 k);
          },
          yes_to 5,
        )

    pub says_sized : (k : ℕ) (o' : List ℕ) → k ≡ 13 + size.buyers * line_length size.lots →
        o' ≡ over (sheet_bytes size.buyers size.lots vs) o → WriteSays m n vs o o' (wrote 0 0 k)
    says_sized k o' ek eo =
        says_written k o' (ap (λ (g : Fault). g.number) none)
        (ek ∙ ap₂ (λ x y. 13 + x * line_length y) is.0 is.1)
        (eo ∙ ap₂ (λ x y. over (sheet_bytes x y vs) o) is.0 is.1)

-- the other way round
pub write_told : {m n : ℕ} {vs o o' : List ℕ} {r : Wrote} → WriteSays m n vs o o' r →
    Told (write_fault m n vs (length o)) (sheet_bytes m n vs) o o' r
write_told {m} {n} {vs} {o} {o'} {r} says =
    told (write_fault m n vs (length o)) (sheet_bytes m n vs) o o' r (write_place m n vs (length o)) says.answer
    says.bytes
