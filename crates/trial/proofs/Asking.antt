-- The questions of a trial, in their order: what each answer on the way through `trial_sheet` says of the fault.
use mathlib.Core.Path.{◌≡◌, ap, ◌∙◌}
use mathlib.Core.Bool.{true, false}
use Prim.Native.Nat.{ℕ, ◌+◌, ◌*◌, ◌≤◌, ◌<◌}
use lib.Dec.{leb}
use borrow.Author.Tests.{le-leb, lt-leb, leb-true}
use Rattle.sheet.specs.declared.Fault.{Fault}
use Rattle.sheet.specs.declared.Refusal.{Refusal}
use Rattle.sheet.specs.Sheets.{line_length}
use Rattle.sheet.specs.Questions.{fault, ask, between}
use Rattle.sheet.specs.Refusals.{fault_of}
use Rattle.writing.specs.Answers.{size_fault}
use Rattle.writing.proofs.Asking.{asked_none, asked_kept, refused_some, size_good}
use Rattle.trial.specs.Asked.{numbers_fault}
use Rattle.trial.specs.Answers.{trial_fault}

module _ (m n top room : ℕ) where
  pub bad_buyers : between 6 m ≡ false → trial_fault m n top room ≡ fault 3 0
  unfolding trial_fault
  bad_buyers q = rw q

  module _ (q3 : between 6 m ≡ true) where
    pub bad_lots : between 4 n ≡ false → trial_fault m n top room ≡ fault 4 0
    unfolding trial_fault
    bad_lots q = rw (q3, q)

    module _ (q4 : between 4 n ≡ true) where
      pub high_top : 9999 < top → trial_fault m n top room ≡ fault 7 0
      unfolding trial_fault
      high_top q = rw (q3, q4, lt-leb top 9999 q)

      pub room_asked : top ≤ 9999 →
          trial_fault m n top room ≡ ask 11 (leb (13 + m * line_length n) room) (λ _. fault 0 0)
      unfolding trial_fault
      room_asked q = rw (q3, q4, le-leb top 9999 q)

-- the first three alone
pub size_kept : (m n top : ℕ) (r : Refusal) → fault_of r ≡ size_fault m n → fault_of r ≡ numbers_fault m n top
size_kept m n top r e =
    asked_kept 3 (between 6 m) _ _ (fault_of r) e (λ e.
    asked_kept 4 (between 4 n) _ _ (fault_of r) e (λ e.
    absurd (refused_some r (ap (λ (f : Fault). f.number) e))))

module _ (m n top : ℕ) (none : fault 0 0 ≡ size_fault m n) where
  last_asked : numbers_fault m n top ≡ ask 7 (leb top 9999) (λ _. fault 0 0)
  last_asked = let (q3, q4) = size_good m n none in rw (q3, q4)

  pub top_refused : 9999 < top → numbers_fault m n top ≡ fault 7 0
  top_refused h = last_asked ∙ ap (λ x. ask 7 x (λ _. fault 0 0)) (lt-leb top 9999 h)

  pub top_passed : top ≤ 9999 → numbers_fault m n top ≡ fault 0 0
  top_passed h = last_asked ∙ ap (λ x. ask 7 x (λ _. fault 0 0)) (le-leb top 9999 h)

-- all got a "yes", or the first "no" is that of all questions
pub numbers_good : (m n top : ℕ) → fault 0 0 ≡ numbers_fault m n top →
    (between 6 m ≡ true) × (between 4 n ≡ true) × (top ≤ 9999)
numbers_good m n top e =
    let (e3, left3) = asked_none 2 (between 6 m) _ e in
    let (e4, left4) = asked_none 3 (between 4 n) _ left3 in
    (e3, e4, leb-true top 9999 (asked_none 6 (leb top 9999) _ left4).0)

pub numbers_bad : (m n top room : ℕ) (r : Refusal) → fault_of r ≡ numbers_fault m n top →
    fault_of r ≡ trial_fault m n top room
unfolding trial_fault
numbers_bad m n top room r e =
    asked_kept 3 (between 6 m) _ _ (fault_of r) e (λ e.
    asked_kept 4 (between 4 n) _ _ (fault_of r) e (λ e.
    asked_kept 7 (leb top 9999) _ _ (fault_of r) e (λ e.
    absurd (refused_some r (ap (λ (f : Fault). f.number) e)))))
