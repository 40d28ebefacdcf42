-- What is written is accepted, and read as the worths that are drawn (`trial_accepted`); it is sold with a record of
-- question 9's sum (`trial_sold`), which is at most 59,994 (`trial_record`).
use mathlib.Core.Path.{◌≡◌, refl, sym, ap, ◌∙◌}
use mathlib.Core.Bool.{◌&&◌}
use mathlib.Core.List.{List}
use Prim.Native.Nat.{ℕ, ◌-◌, ◌/◌, ◌%◌, ◌^◌, ◌≤◌}
use lib.Dec.{ltb, leb}
use lib.ListN.{length, take}
use lib.Seq.{take_at}
use borrow.Author.Tests.{le-leb, ltb-true}
use Rattle.theory.specs.Sums.{when}
use Rattle.theory.specs.Lists.{over}
use Rattle.theory.proofs.Lists.{tabulate_same}
use Rattle.theory.proofs.Tests.{by_test, itself, and_means}
use Rattle.sheet.specs.declared.Fault.{Fault}
use Rattle.sheet.specs.declared.Worths.{Worths}
use Rattle.sheet.specs.Sheets.{sheet_of}
use Rattle.sheet.specs.Tables.{cell, cell_at, cells}
use Rattle.sheet.specs.Questions.{sheet_fault}
use Rattle.sheet.specs.Answers.{worths_read}
use Rattle.sheet.proofs.Forms.{asked_yes}
use Rattle.sheet.proofs.Theorems.{accepted_shape}
use Rattle.owners.proofs.Singles.{sum_small}
use Rattle.sale.specs.declared.Sale.{Sale}
use Rattle.offers.specs.Offers.{offer_of}
use Rattle.offers.specs.Rounds.{round_limit}
use Rattle.sale.specs.Answers.{SaleSays}
use Rattle.sale.proofs.Opening.{sale_number}
use Rattle.writing.specs.declared.Wrote.{Wrote}
use Rattle.writing.specs.Lists.{listed, sheet_bytes}
use Rattle.writing.specs.Answers.{WriteSays}
use Rattle.writing.proofs.Questions.{write_all_yes}
use Rattle.writing.proofs.Answers.{write_told}
use Rattle.writing.proofs.Trips.{bytes_accepted, written_read}
use Rattle.trial.specs.Worths.{trial_table, trial_list}
use Rattle.trial.specs.Answers.{trial_bytes, TrialSays}
use Rattle.trial.proofs.Tables.{list-worth}
use Rattle.trial.proofs.Answers.{told_writes}

-- the list's table is the one that is drawn
cells-drawn : (N m n top : ℕ) → cells m n (listed n (trial_list N m n top)) ≡ cells m n (trial_table N n top)
unfolding cells
cells-drawn N m n top =
    let l = listed n (trial_list N m n top) in
    let t = trial_table N n top in
    tabulate_same 96 0 (cell_at m n l) (cell_at m n t) (λ k _. same (k / 16) (k % 16))
  where
    same : (i s : ℕ) → cell m n (listed n (trial_list N m n top)) i s ≡ cell m n (trial_table N n top) i s
    same i s =
        by_test (ltb i m && ltb s (2 ^ n))
        (λ e.
        let (h, g) = (and_means (itself (ltb i m)) (itself (ltb s (2 ^ n)))).0 e in
        ap (when (ltb i m && ltb s (2 ^ n))) (list-worth N m n top i s (ltb-true i m h) (ltb-true s (2 ^ n) g)))
        (λ e. rw e refl)

module _ (N m n top : ℕ) (o o' : List ℕ) (r : Wrote) (says : TrialSays N m n top o o' r) (z : r.number ≡ 0) where
  abbrev vs : List ℕ
  vs = trial_list N m n top

  writes : WriteSays m n vs o o' r
  writes = told_writes says z

  pub trial_accepted : (r.length ≡ length (trial_bytes N m n top)) × (o' ≡ over (trial_bytes N m n top) o)
      × (worths_read (take r.length o')
      ≡ record { number = 0; place = 0; buyers = m; lots = n; worths = cells m n (trial_table N n top) })
  unfolding trial_bytes
  trial_accepted =
      let (long, bytes, read) = written_read m n vs o o' r writes z in
      let told : List ℕ → Worths = λ l. record { number = 0; place = 0; buyers = m; lots = n; worths = l } in
      (long, bytes, read ∙ ap told (cells-drawn N m n top))

  abbrev b : List ℕ
  b = take r.length o'

  accepted : (sheet_fault b).number ≡ 0
  accepted =
      let none = sym (write_told writes).number ∙ z in
      let (long, bytes, _) = written_read m n vs o o' r writes z in
      let front : b ≡ sheet_bytes m n vs = ap (take r.length) bytes ∙ take_at _ _ r.length (sym long) in
      ap (λ l. (sheet_fault l).number) front
      ∙ (bytes_accepted m n vs (length o) ((write_all_yes m n vs (length o)).0 none)).0

  pub trial_sold : (l l' : List ℕ) (s : Sale) → SaleSays b l l' s → round_limit (offer_of b) ≤ length l → s.number ≡ 0
  trial_sold l l' s sale long =
      sale_number b l l' s sale
      ∙ ap (λ (f : Fault). f.number)
      (asked_yes 9 (leb (round_limit (offer_of b)) (length l)) (sheet_fault b) accepted
      (le-leb (round_limit (offer_of b)) (length l) long))

  pub trial_record : round_limit (offer_of b) ≤ 59994
  trial_record =
      let shape = accepted_shape b accepted in
      sum_small (sheet_of b).buyers (λ _. 2 ^ (sheet_of b).lots - 1) shape.few_buyers (sheet_of b).worths
      shape.small
