-- The fault of a sheet, by the question that gets the first "no": which question that is (`first_no`, `all_yes`), and
-- "yes" to those before one (`before_none`, `before_more`); what questions 6, 7 and 8 ask place by place
-- (`malformed_none`, `large_none`, `falls_none`).
use mathlib.Core.Path.{◌≡◌, refl, subst}
use mathlib.Core.Logic.{◌↔◌}
use mathlib.Core.List.{List}
use Prim.Native.Nat.{ℕ, zero, suc, ◌+◌, ◌-◌, ◌*◌, ◌≤◌, ◌<◌}
use native.Mathlib.Omega.{arith}
use native.Mathlib.Decide.{ℕ_discrete}
use lib.Dec.{leb}
use lib.ListN.{length, drop, get_or}
use Rattle.theory.proofs.Tests.{Means, means_via, and_means, eqb_means, leb_means}
use Rattle.sheet.specs.Sheets.{line_length, Sheet, sheet_of, worth}
use Rattle.sheet.specs.Questions.{head_good, between, right_length, first_wrong, lines_fault, sheet_fault}
use Rattle.sheet.specs.Claims.{GoodField, questions, Question, Malformed, TooLarge, Falls}
use Rattle.sheet.proofs.Lines.{good_means}
use Rattle.sheet.proofs.Valued.{empty_worth}
use Rattle.sheet.proofs.Nowhere.{Nowhere, malformed_nowhere, large_nowhere, falls_nowhere}
use Rattle.sheet.proofs.Nowhere.{none_malformed, none_large, none_falls}
use Rattle.sheet.proofs.Firsts.{FirstNo, first_asked, first_each, Tells, first_none, first_iff}

-- what the questions' tests mean
pub between_means : (k m : ℕ) → Means (between k m) ((1 ≤ m) × (m ≤ k))
between_means k m = and_means (leb_means 1 m) (leb_means m k)

module _ (b : List ℕ) where
  abbrev w : Sheet
  w = sheet_of b

  head_means : Means (head_good b) (GoodField b 0 × GoodField b 6 × (get_or b 12 0 ≡ 10))
  head_means =
      means_via (and_means (good_means b 0) (and_means (good_means b 6) (eqb_means (get_or b 12 0) 10)))
      (λ h. (h.0, h.1.0, h.1.1)) (λ h. (h.0, (h.1, h.2)))

  abbrev from : ℕ → List (Type 0)
  from k = drop k (questions b w)

  free : (i : ℕ) → worth w i 0 ≡ 0
  free = empty_worth w.buyers w.lots b

  -- what questions 6, 7 and 8 ask of the sheet
  pub malformed_none : Question b 6 ↔ Nowhere w (λ i c. Malformed w i c b)
  malformed_none = malformed_nowhere b w

  pub large_none : Question b 7 ↔ Nowhere w (TooLarge w)
  large_none = large_nowhere b w free

  pub falls_none : Question b 8 ↔ Nowhere w (Falls w)
  falls_none = falls_nowhere b w free

  lines-first : FirstNo (λ i. 6 + i) (from 6) (lines_fault b w).number
  unfolding lines_fault
  lines-first =
      first_each (λ i. 6 + i) (Question b 6) (from 7) w.lots (first_wrong 6 b w) _ (none_malformed b w)
      (first_each (λ i. 7 + i) (Question b 7) (from 8) w.lots (first_wrong 7 b w) _ (none_large b w free)
      (first_each (λ i. 8 + i) (Question b 8) (from 9) w.lots (first_wrong 8 b w) _ (none_falls b w free) refl))

  questions-first : FirstNo suc (from 1) (sheet_fault b).number
  unfolding sheet_fault
  questions-first =
      first_asked suc (Question b 1) (from 2) (leb 13 (length b)) _ (leb_means 13 (length b)) (λ _.
      first_asked (λ i. 2 + i) (Question b 2) (from 3) (head_good b) _ head_means (λ _.
      first_asked (λ i. 3 + i) (Question b 3) (from 4) (between 6 w.buyers) _ (between_means 6 w.buyers) (λ _.
      first_asked (λ i. 4 + i) (Question b 4) (from 5) (between 4 w.lots) _ (between_means 4 w.lots) (λ _.
      first_asked (λ i. 5 + i) (Question b 5) (from 6) (right_length b w) _
      (eqb_means (length b) (13 + w.buyers * line_length w.lots)) (λ _. lines-first)))))

  -- "yes" to the questions before k
  abbrev pub Before : ℕ → Type 0
  Before k = (j : ℕ) → j < k → Question b j

  pub before_none : Before 1
  before_none j h = let e : 0 ≡ j = omega arith in subst (Question b) e tt

  pub before_more : (k : ℕ) → Before k → Question b k → Before (suc k)
  before_more k before q j h =
      elim (ℕ_discrete k j) [ yes e ↦ subst (Question b) e q | no e ↦ before j (omega arith) ]

  tells : (j : ℕ) → Tells suc (λ n. n - 1) j
  tells j = (omega arith, omega arith)

  -- the number is k exactly if the questions below k get a "yes" and k gets none; it is 0 exactly if all get one
  pub first_no : (k : ℕ) → 1 ≤ k → ((sheet_fault b).number ≡ k) ↔
      (((j : ℕ) → j < k → Question b j) × (Question b k → ⊥))
  first_no zero l = absurd (omega arith)
  first_no (suc k) l =
      let (to, back) = first_iff suc (λ n. n - 1) (from 1) (sheet_fault b).number (λ j _. tells j) questions-first k
      (tells k) in (
        λ e. let no_at = to e in (with_none no_at.before, no_at.there),
        λ h. back (record { before = λ i m. h.0 (suc i) (omega arith); there = h.1 }),
      )
    where
      with_none : ((i : ℕ) → i < k → Question b (suc i)) → (j : ℕ) → j < suc k → Question b j
      with_none h zero m = tt
      with_none h (suc j) m = h j (omega arith)

  pub all_yes : ((sheet_fault b).number ≡ 0) ↔ ((k : ℕ) → Question b k)
  all_yes =
      let (to, back) = first_none suc (λ n. n - 1) (from 1) (sheet_fault b).number (λ j _. tells j) questions-first in
      (λ e. with_none (to e), λ h. back (λ i. h (suc i)))
    where
      with_none : ((i : ℕ) → Question b (suc i)) → (k : ℕ) → Question b k
      with_none h zero = tt
      with_none h (suc k) = h k
