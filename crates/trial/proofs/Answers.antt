-- What `trial_sheet` answers, on each way through: a refusal (`says_refused`), or what its list's writing answers
-- (`says_written`), since that is asked as the trial is (`asked_alike`); and what `TrialSays` tells of an answer
-- (`trial_told`, `told_writes`).
use mathlib.Core.Path.{◌≡◌, sym, ap, ap₂, ◌∙◌}
use mathlib.Core.Bool.{true}
use mathlib.Core.List.{List}
use Prim.Native.Nat.{ℕ, zero, suc, ◌+◌, ◌-◌, ◌*◌, ◌^◌, ◌≤◌, ◌<◌}
use native.Mathlib.Omega.{arith}
use native.Mathlib.Decide.{dec_le}
use lib.ListN.{length}
use borrow.Author.Tests.{ne_eqb, le-leb, lt-leb}
use Rattle.theory.specs.Sums.{pick, when}
use Rattle.theory.specs.Lists.{over}
use Rattle.sheet.specs.declared.Fault.{Fault}
use Rattle.sheet.specs.declared.Refusal.{Refusal}
use Rattle.sheet.specs.Sheets.{line_length}
use Rattle.sheet.specs.Questions.{fault, ask, between}
use Rattle.sheet.specs.Refusals.{fault_of}
use Rattle.sheet.proofs.Faults.{between_means}
use Rattle.writing.specs.declared.Wrote.{Wrote}
use Rattle.writing.specs.Lists.{sheet_bytes}
use Rattle.writing.specs.Answers.{write_fault, WriteSays, refused_wrote}
use Rattle.writing.specs.Claims.{ListQuestion}
use Rattle.writing.proofs.Answers.{wrote, answer_by, buffer_by, Told, told}
use Rattle.writing.proofs.Asking.{refused_some}
use Rattle.writing.proofs.Questions.{write_first_no, write_all_yes, write_place}
use Rattle.trial.specs.Worths.{trial_list}
use Rattle.trial.specs.Asked.{numbers_fault}
use Rattle.trial.specs.Answers.{trial_fault, trial_bytes, TrialSays}
use Rattle.trial.proofs.Asking.{room_asked, numbers_bad}
use Rattle.trial.proofs.Questions.{trial_all_yes, trial_place_none}
use Rattle.trial.proofs.Tables.{trial_grows, list_length, list_small, list-worth}

-- a list that is drawn gets a "yes" to every question but the last
module _ (N m n top room : ℕ) (q3 : between 6 m ≡ true) (q4 : between 4 n ≡ true) (q7 : top ≤ 9999) where
  abbrev vs : List ℕ
  vs = trial_list N m n top

  list_asked : (j : ℕ) → j < 5 → ListQuestion m n vs room j
  list_asked zero h = (between_means 6 m).0 q3
  list_asked (suc zero) h = (between_means 4 n).0 q4
  list_asked (suc (suc zero)) h = list_length N m n top
  list_asked (suc (suc (suc zero))) h = list_small N m n top
  list_asked (suc (suc (suc (suc zero)))) h = λ i s j g b l t _.
      omega (
        arith,
        trial_grows N n top i s j l t,
        list-worth N m n top i s g b,
        list-worth N m n top i (s - 2 ^ j) g (omega arith),
      )
  list_asked (suc (suc (suc (suc (suc j))))) h = absurd (omega arith)

  by_number : (k : ℕ) → (write_fault m n vs room).number ≡ k → write_fault m n vs room ≡ fault k 0
  by_number k e = ap₂ fault e (write_place m n vs room)

  pub asked_alike : write_fault m n vs room ≡ trial_fault m n top room
  asked_alike =
      elim (dec_le (13 + m * line_length n) room) [
        | yes h ↦
            by_number 0 ((write_all_yes m n vs room).1 (all_asked h))
            ∙ sym (room_asked m n top room q3 q4 q7 ∙ ap (λ x. ask 11 x (λ _. fault 0 0)) (le-leb _ room h))
        | no h ↦
            by_number 11 ((write_first_no m n vs room 5 (omega arith)).1 (list_asked, λ q. h q))
            ∙ sym (room_asked m n top room q3 q4 q7
            ∙ ap (λ x. ask 11 x (λ _. fault 0 0)) (lt-leb _ room (omega arith)))
      ]
    where
      all_asked : 13 + m * line_length n ≤ room → (j : ℕ) → ListQuestion m n vs room j
      all_asked h zero = list_asked 0 (omega arith)
      all_asked h (suc zero) = list_asked 1 (omega arith)
      all_asked h (suc (suc zero)) = list_asked 2 (omega arith)
      all_asked h (suc (suc (suc zero))) = list_asked 3 (omega arith)
      all_asked h (suc (suc (suc (suc zero)))) = list_asked 4 (omega arith)
      all_asked h (suc (suc (suc (suc (suc zero))))) = h
      all_asked h (suc (suc (suc (suc (suc (suc j)))))) = tt

module _ (N m n top : ℕ) (o : List ℕ) where
  abbrev f : Fault
  f = trial_fault m n top (length o)

  abbrev b : List ℕ
  b = trial_bytes N m n top

  pub says_refused : (r : Refusal) → fault_of r ≡ numbers_fault m n top → TrialSays N m n top o o (refused_wrote r)
  says_refused r e =
      let is : fault_of r ≡ f = numbers_bad m n top (length o) r e in
      let t = ne_eqb f.number 0 (λ z. refused_some r (ap (λ (g : Fault). g.number) is ∙ z)) in
      record {
        answer =
            ap (λ (g : Fault). wrote g.number g.place 0) is
            ∙ ap (λ x. wrote f.number f.place (when x (length b))) (sym t);
        bytes = ap (λ x. pick x (over b o) o) (sym t);
      }

  pub says_written : between 6 m ≡ true → between 4 n ≡ true → top ≤ 9999 → (vs o' : List ℕ) (r : Wrote) →
      vs ≡ trial_list N m n top → WriteSays m n vs o o' r → TrialSays N m n top o o' r
  unfolding trial_bytes
  says_written q3 q4 q7 _ o' r e says =
      let alike = ap (λ l. write_fault m n l (length o)) e ∙ asked_alike N m n top (length o) q3 q4 q7 in
      let same = ap (sheet_bytes m n) e in
      record {
        answer = says.answer ∙ ap₂ answer_by alike same;
        bytes = says.bytes ∙ ap₂ (λ x l. buffer_by x l o) alike same;
      }

-- the other way round
module _ {N m n top : ℕ} {o o' : List ℕ} {r : Wrote} (says : TrialSays N m n top o o' r) where
  pub trial_told : Told (trial_fault m n top (length o)) (trial_bytes N m n top) o o' r
  trial_told =
      told (trial_fault m n top (length o)) (trial_bytes N m n top) o o' r (trial_place_none m n top (length o))
      says.answer says.bytes

  -- a list that is drawn, and written
  pub told_writes : r.number ≡ 0 → WriteSays m n (trial_list N m n top) o o' r
  unfolding trial_bytes
  told_writes z =
      let yes_to = (trial_all_yes m n top (length o)).0 (sym trial_told.number ∙ z) in
      let buyers = (between_means 6 m).1 (yes_to 0) in
      let lots = (between_means 4 n).1 (yes_to 1) in
      let alike = sym (asked_alike N m n top (length o) buyers lots (yes_to 2)) in
      record {
        answer = says.answer ∙ ap (λ x. answer_by x (trial_bytes N m n top)) alike;
        bytes = says.bytes ∙ ap (λ x. buffer_by x (trial_bytes N m n top) o) alike;
      }
