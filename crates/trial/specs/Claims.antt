-- The questions put to a trial's numbers, as propositions (`TrialQuestion`), and all that is claimed of trial sheets
-- (`Trials`).
use Rattle.std.specs.Prelude.{◌≡◌, ◌≢◌, ◌⊎◌, ◌↔◌, List, [], ◌∷◌, ℕ, suc, min, ◌+◌, ◌-◌, ◌*◌, ◌^◌, ◌≤◌, ◌<◌, length}
use Rattle.std.specs.Prelude.{take, get_or}
use Rattle.theory.specs.Lists.{over}
use Rattle.fields.specs.Fields.{fields_of, line_of}
use Rattle.sheet.specs.Tables.{cells}
use Rattle.sheet.specs.Answers.{worths_read}
use Rattle.sale.specs.declared.Sale.{Sale}
use Rattle.offers.specs.Offers.{offer_of}
use Rattle.offers.specs.Rounds.{round_limit}
use Rattle.sale.specs.Answers.{SaleSays}
use Rattle.writing.specs.declared.Wrote.{Wrote}
use Rattle.trial.specs.Worths.{drawn_worth, most_fewer, draw_for, trial_table}
use Rattle.trial.specs.Answers.{trial_fault, trial_bytes, TrialSays, trial_text}

-- rule 12.5: the numbers of the questions, in the order in which they are asked, and the questions
abbrev pub question_numbers : List ℕ
question_numbers = 3 ∷ 4 ∷ 7 ∷ 11 ∷ []

abbrev pub trial_questions : ℕ → ℕ → ℕ → ℕ → List (Type 0)
trial_questions m n top room =
    ((1 ≤ m) × (m ≤ 6))
    ∷ ((1 ≤ n) × (n ≤ 4))
    ∷ (top ≤ 9999)
    ∷ (13 + m * (6 * (2 ^ n - 1) + 1) ≤ room)
    ∷ []

-- that at place j, from 0 on
abbrev pub TrialQuestion : ℕ → ℕ → ℕ → ℕ → ℕ → Type 0
TrialQuestion m n top room j = get_or (trial_questions m n top room) j (Unit {0})

-- rule 12.8: bytes that are four numbers in six columns each, the first of them a sheet's number
pub record Typed (b : List ℕ) (N m n top : ℕ) : Type 0 where
  pub bytes : b ≡ fields_of (N ∷ m ∷ n ∷ top ∷ [])
  pub number : N ≤ 65535
  pub small : (m ≤ 999999) × (n ≤ 999999) × (top ≤ 999999)

pub record Trials : Type 0 where
  -- rule 12.4: the empty bundle is worth 0, and each other one is drawn
  pub trial_empty : (N n top i : ℕ) → trial_table N n top i 0 ≡ 0
  pub trial_worth : (N n top i c : ℕ) → let v = trial_table N n top i in
      v (suc c) ≡ drawn_worth top (most_fewer n v (suc c)) (draw_for N n i (suc c))
  -- demand 1: the number is that of the first question that gets a "no", 0 if there is none, and the place is 0. A
  -- refusal has length 0 and leaves the buffer as it was
  pub trial_first_no : (m n top room j : ℕ) → j < 4 → ((trial_fault m n top room).number ≡ get_or question_numbers j 0)
      ↔ (((i : ℕ) → i < j → TrialQuestion m n top room i) × (TrialQuestion m n top room j → ⊥))
  pub trial_all_yes : (m n top room : ℕ) →
      ((trial_fault m n top room).number ≡ 0) ↔ ((j : ℕ) → TrialQuestion m n top room j)
  pub trial_numbers_lem : (m n top room : ℕ) → ((trial_fault m n top room).number ≡ 0)
      ⊎ ((j : ℕ) × (j < 4) × ((trial_fault m n top room).number ≡ get_or question_numbers j 0))
  pub trial_refused : (N m n top : ℕ) (o o' : List ℕ) (r : Wrote) → TrialSays N m n top o o' r →
      (r.number ≡ (trial_fault m n top (length o)).number) × (r.place ≡ 0)
      × (r.number ≢ 0 → (r.length ≡ 0) × (o' ≡ o))
  -- what is written is accepted, and read as the worths that are drawn
  pub trial_accepted : (N m n top : ℕ) (o o' : List ℕ) (r : Wrote) → TrialSays N m n top o o' r → r.number ≡ 0 →
      (r.length ≡ length (trial_bytes N m n top)) × (o' ≡ over (trial_bytes N m n top) o)
      × (worths_read (take r.length o')
      ≡ record { number = 0; place = 0; buyers = m; lots = n; worths = cells m n (trial_table N n top) })
  -- and sold with a record of question 9's sum, which is at most 59,994, whatever bytes it holds
  pub trial_sold : (N m n top : ℕ) (o o' : List ℕ) (r : Wrote) → TrialSays N m n top o o' r → r.number ≡ 0 →
      let b = take r.length o' in (l l' : List ℕ) (s : Sale) → SaleSays b l l' s →
      round_limit (offer_of b) ≤ length l → s.number ≡ 0
  pub trial_record : (N m n top : ℕ) (o o' : List ℕ) (r : Wrote) → TrialSays N m n top o o' r → r.number ≡ 0 →
      round_limit (offer_of (take r.length o')) ≤ 59994
  -- numbers above 999,999 are refused as that is
  pub trial_capped : (m n top room : ℕ) →
      trial_fault (min m 999999) (min n 999999) (min top 999999) room ≡ trial_fault m n top room
  -- what is printed of four numbers is what is written of them, or the line of the refusal; 559 bytes have room for it
  pub text_says : (b : List ℕ) (N m n top : ℕ) → Typed b N m n top → (o o' : List ℕ) (r : Wrote) → 559 ≤ length o →
      TrialSays N m n top o o' r → (r.number ≢ 11) × (r.number ≡ 0 → trial_text b ≡ take r.length o')
      × (r.number ≢ 0 → trial_text b ≡ line_of (r.number ∷ r.place ∷ []))
  pub text_longest : (b : List ℕ) → length (trial_text b) ≤ 559
  -- and of other bytes nothing is printed
  pub text_typed : (b : List ℕ) → 1 ≤ length (trial_text b) →
      (N : ℕ) × ((m : ℕ) × ((n : ℕ) × ((top : ℕ) × Typed b N m n top)))
