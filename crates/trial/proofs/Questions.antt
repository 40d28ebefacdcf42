-- The questions put to a trial's numbers: which of them gets the first "no" (`trial_first_no`, `trial_all_yes`,
-- `trial_numbers_lem`); the number is at most 11 (`trial_range`), the place 0 (`trial_place_none`); from 559 bytes on
-- the buffer makes no difference (`room_alike`, `never_eleven`), and numbers above 999,999 are refused as that is
-- (`trial_capped`).
use mathlib.Core.Path.{◌≡◌, refl, sym, ap, ◌∙◌}
use mathlib.Core.Logic.{◌≢◌, ◌↔◌, ◌⊎◌}
use mathlib.Core.Bool.{true}
use mathlib.Core.List.{List, [], ◌∷◌}
use Prim.Native.Nat.{ℕ, zero, suc, ◌+◌, ◌*◌, ◌≤◌, ◌<◌}
use native.Mathlib.Omega.{arith}
use native.Mathlib.Decide.{dec_le}
use lib.Dec.{leb}
use lib.ListN.{drop, get_or}
use borrow.Author.Tests.{le-leb}
use Rattle.theory.proofs.Tests.{by_test, leb_means}
use Rattle.sheet.specs.declared.Fault.{Fault}
use Rattle.sheet.specs.Sheets.{line_length}
use Rattle.sheet.specs.Questions.{fault, ask, between}
use Rattle.sheet.proofs.Faults.{between_means}
use Rattle.sheet.proofs.Firsts.{FirstNo, first_asked, Tells, first_none, first_no, first-number}
use Rattle.sheet.proofs.Theorems.{ask_cases}
use Rattle.writing.proofs.Limits.{bytes_small, cap, cap_between}
use Rattle.trial.specs.Answers.{trial_fault}
use Rattle.trial.specs.Claims.{question_numbers, trial_questions, TrialQuestion}
use Rattle.trial.proofs.Asking.{bad_buyers, bad_lots, high_top, room_asked}

abbrev number : ℕ → ℕ
number j = get_or question_numbers j 0

-- the question that has a number
abbrev back : ℕ → ℕ
back k = get_or (0 ∷ 0 ∷ 0 ∷ 0 ∷ 1 ∷ 0 ∷ 0 ∷ 2 ∷ 0 ∷ 0 ∷ 0 ∷ 3 ∷ []) k 0

tells : (j : ℕ) → j < 4 → Tells number back j
tells zero h = (omega arith, refl)
tells (suc zero) h = (omega arith, refl)
tells (suc (suc zero)) h = (omega arith, refl)
tells (suc (suc (suc zero))) h = (omega arith, refl)
tells (suc (suc (suc (suc j)))) h = absurd (omega arith)

module _ (m n top room : ℕ) where
  abbrev from : ℕ → List (Type 0)
  from j = drop j (trial_questions m n top room)

  trial_first : FirstNo number (from 0) (trial_fault m n top room).number
  unfolding trial_fault
  trial_first =
      first_asked number _ (from 1) (between 6 m) _ (between_means 6 m) (λ _.
      first_asked (λ i. number (suc i)) _ (from 2) (between 4 n) _ (between_means 4 n) (λ _.
      first_asked (λ i. number (suc (suc i))) _ (from 3) (leb top 9999) _ (leb_means top 9999) (λ _.
      first_asked (λ i. number (suc (suc (suc i)))) _ (from 4) (leb (13 + m * line_length n) room) _
      (leb_means (13 + m * line_length n) room) (λ _. refl))))

  pub trial_first_no : (j : ℕ) → j < 4 → ((trial_fault m n top room).number ≡ number j)
      ↔ (((i : ℕ) → i < j → TrialQuestion m n top room i) × (TrialQuestion m n top room j → ⊥))
  trial_first_no = first_no number back (from 0) (trial_fault m n top room).number tells trial_first

  pub trial_all_yes : ((trial_fault m n top room).number ≡ 0) ↔ ((j : ℕ) → TrialQuestion m n top room j)
  trial_all_yes = first_none number back (from 0) (trial_fault m n top room).number tells trial_first

  pub trial_numbers_lem : ((trial_fault m n top room).number ≡ 0)
      ⊎ ((j : ℕ) × (j < 4) × ((trial_fault m n top room).number ≡ number j))
  trial_numbers_lem = first-number number back (from 0) (trial_fault m n top room).number tells trial_first

  -- a fault has a number up to 11, and the place 0
  fault_cases : (P : Fault → Type 0) → ((k : ℕ) → k ≤ 11 → P (fault k 0)) → P (trial_fault m n top room)
  unfolding trial_fault
  fault_cases P h =
      ask_cases P 3 (between 6 m) _ (h 3 (omega arith)) (λ _.
      ask_cases P 4 (between 4 n) _ (h 4 (omega arith)) (λ _.
      ask_cases P 7 (leb top 9999) _ (h 7 (omega arith)) (λ _.
      ask_cases P 11 (leb (13 + m * line_length n) room) _ (h 11 (omega arith)) (λ _. h 0 (omega arith)))))

  pub trial_range : (trial_fault m n top room).number ≤ 11
  trial_range = fault_cases (λ f. f.number ≤ 11) (λ k low. low)

  pub trial_place_none : (trial_fault m n top room).place ≡ 0
  trial_place_none = fault_cases (λ f. f.place ≡ 0) (λ k _. refl)

-- two trials that are asked alike of the top and of the buffer, once buyers and lots are good
module _ (m n top top' room room' : ℕ) where
  asked_alike : (between 6 m ≡ true → between 4 n ≡ true → trial_fault m n top room ≡ trial_fault m n top' room') →
      trial_fault m n top room ≡ trial_fault m n top' room'
  asked_alike same =
      by_test (between 6 m)
      (λ e3. by_test (between 4 n)
      (λ e4. same e3 e4)
      (λ e4. bad_lots m n top room e3 e4 ∙ sym (bad_lots m n top' room' e3 e4)))
      (λ e3. bad_buyers m n top room e3 ∙ sym (bad_buyers m n top' room' e3))

pub room_alike : (m n top room : ℕ) → 559 ≤ room → trial_fault m n top room ≡ trial_fault m n top 559
room_alike m n top room long =
    asked_alike m n top top room 559 (λ e3 e4.
    elim (dec_le top 9999) [
      | yes h ↦
          let size = 13 + m * line_length n in
          let fits = bytes_small m n ((between_means 6 m).0 e3).1 ((between_means 4 n).0 e4).1 in
          room_asked m n top room e3 e4 h
          ∙ ap (λ x. ask 11 x (λ _. fault 0 0)) (le-leb size room (omega arith) ∙ sym (le-leb size 559 fits))
          ∙ sym (room_asked m n top 559 e3 e4 h)
      | no h ↦ high_top m n top room e3 e4 (omega arith) ∙ sym (high_top m n top 559 e3 e4 (omega arith))
    ])

pub never_eleven : (m n top room : ℕ) → 559 ≤ room → (trial_fault m n top room).number ≢ 11
never_eleven m n top room long e =
    let (before, there) = (trial_first_no m n top room 3 (omega arith)).0 e in
    there (omega (arith, bytes_small m n (before 0 (omega arith)).1 (before 1 (omega arith)).1))

pub trial_capped : (m n top room : ℕ) → trial_fault (cap m) (cap n) (cap top) room ≡ trial_fault m n top room
trial_capped m n top room =
    by_test (between 6 m)
    (λ e3.
    let em : cap m ≡ m = omega (arith, (between_means 6 m).0 e3) in
    by_test (between 4 n)
    (λ e4.
    let en : cap n ≡ n = omega (arith, (between_means 4 n).0 e4) in
    ap (λ x. trial_fault x (cap n) (cap top) room) em ∙ ap (λ x. trial_fault m x (cap top) room) en
    ∙ elim (dec_le top 9999) [
      | yes h ↦ let same : cap top ≡ top = omega arith in ap (λ x. trial_fault m n x room) same
      | no h ↦ high_top m n (cap top) room e3 e4 (omega arith) ∙ sym (high_top m n top room e3 e4 (omega arith))
    ])
    (λ e4.
    bad_lots (cap m) (cap n) (cap top) room (cap_between 6 m (omega arith) ∙ e3) (cap_between 4 n (omega arith) ∙ e4)
    ∙ sym (bad_lots m n top room e3 e4)))
    (λ e3.
    bad_buyers (cap m) (cap n) (cap top) room (cap_between 6 m (omega arith) ∙ e3)
    ∙ sym (bad_buyers m n top room e3))
