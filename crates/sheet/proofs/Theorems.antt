-- What is known of every sheet's fault, and of every accepted sheet: `refusal_range`, `place_zero`, `place_inside`,
-- `place_least`, `accepted_shape`, `accepted_grows`, `accepted_monotone`, `accepted_written`. (`first_no` stands in
-- Faults, `field_canonical` in Canonical.)
use mathlib.Core.Path.{◌≡◌, refl, sym, ap, subst, ◌∙◌}
use mathlib.Core.Logic.{◌↔◌}
use mathlib.Core.Bool.{Bool, true}
use mathlib.Core.List.{List}
use Prim.Native.Nat.{ℕ, suc, ◌+◌, ◌*◌, ◌/◌, ◌%◌, ◌^◌, ◌≤◌, ◌<◌}
use native.Mathlib.Nat.{suc-mul, mul-le-mul_right}
use native.Mathlib.Omega.{arith}
use lib.Dec.{leb}
use lib.ListN.{length, take, drop}
use borrow.Author.Tests.{eqb-true}
use Rattle.theory.proofs.Tests.{by_test}
use Rattle.theory.proofs.Rounds.{by_choice}
use Rattle.sheet.specs.declared.Fault.{Fault}
use Rattle.fields.specs.Fields.{number_of, columns}
use Rattle.sheet.specs.Sheets.{line_length, offset, Sheet, sheet_of, worth, worth_in, worths_in}
use Rattle.numbers.specs.Numbers.{bit}
use Rattle.fields.specs.Fields.{number_at}
use Rattle.sheet.specs.Questions.{fault, ask, ask_each, head_good, between, right_length, wrong, first_wrong}
use Rattle.sheet.specs.Questions.{lines_fault, sheet_fault}
use Rattle.sheet.specs.Claims.{GoodField, Question, Malformed, TooLarge, Falls, WrongAt, LeastPlace}
use Rattle.sheet.specs.Claims.{Shape, Grows}
use Rattle.sheet.proofs.Writing.{Written}
use Rattle.fields.proofs.Canonical.{field_canonical}
use Rattle.numbers.proofs.Subsets.{subset_monotone}
use Rattle.sheet.proofs.Lines.{first_place, malformed_means, large_means, falls_means}
use Rattle.sheet.proofs.Valued.{worth_there, laid_shape, worths_laid, empty_worth, worth-read}
use Rattle.sheet.proofs.Nowhere.{growing}
use Rattle.sheet.proofs.Faults.{all_yes}

module _ (P : Fault → Type 0) where
  pub ask_cases : (k : ℕ) (x : Bool) (rest : Unit {0} → Fault) → P (fault k 0) → (x ≡ true → P (rest tt)) →
      P (ask k x rest)
  ask_cases k x rest h f = by_test x (λ e. rw e (f e)) (λ e. rw e h)

  each_cases : (k n x : ℕ) (rest : Unit {0} → Fault) →
      ((j : ℕ) → x ≡ suc j → P (fault k (offset n (j / 2 ^ n) (j % 2 ^ n)))) → P (rest tt) → P (ask_each k n x rest)
  each_cases k n x rest h f = by_choice x (λ e. rw e f) (λ j e. rw e (h j e))

module _ (b : List ℕ) where
  abbrev w : Sheet
  w = sheet_of b

  abbrev n : ℕ
  n = w.lots

  -- a fault is one of 1 to 5 with place 0, one of 6 to 8 at the first wrong place, or none
  fault_cases : (P : Fault → Type 0) →
      ((k : ℕ) → 1 ≤ k → k ≤ 5 → P (fault k 0)) →
      (length b ≡ 13 + w.buyers * line_length n → (q k : ℕ) → 6 ≤ q → q ≤ 8 → first_wrong q b w ≡ suc k →
      P (fault q (offset n (k / 2 ^ n) (k % 2 ^ n)))) →
      P (fault 0 0) →
      P (sheet_fault b)
  unfolding sheet_fault lines_fault
  fault_cases P plain placed none =
      ask_cases P 1 (leb 13 (length b)) _ (plain 1 (omega arith) (omega arith)) (λ _.
      ask_cases P 2 (head_good b) _ (plain 2 (omega arith) (omega arith)) (λ _.
      ask_cases P 3 (between 6 w.buyers) _ (plain 3 (omega arith) (omega arith)) (λ _.
      ask_cases P 4 (between 4 n) _ (plain 4 (omega arith) (omega arith)) (λ _.
      ask_cases P 5 (right_length b w) _ (plain 5 (omega arith) (omega arith)) (λ e.
      let long = eqb-true (length b) (13 + w.buyers * line_length n) e in
      each_cases P 6 n (first_wrong 6 b w) _ (λ j h. placed long 6 j (omega arith) (omega arith) h)
      (each_cases P 7 n (first_wrong 7 b w) _ (λ j h. placed long 7 j (omega arith) (omega arith) h)
      (each_cases P 8 n (first_wrong 8 b w) _ (λ j h. placed long 8 j (omega arith) (omega arith) h) none)))))))

  -- the number is 0, or one of 1 to 8 (rules 3.1 to 3.8)
  pub refusal_range : (sheet_fault b).number ≤ 8
  refusal_range = fault_cases (λ f. f.number ≤ 8) (λ k _ h. omega arith) (λ _ q k _ h _. omega arith) (omega arith)

  -- rule 3.13: without 6, 7, 8 the place is 0; with them it stands in the lines after the first
  pub place_zero : (sheet_fault b).number < 6 → (sheet_fault b).place ≡ 0
  place_zero =
      fault_cases (λ f. f.number < 6 → f.place ≡ 0) (λ k _ _ _. refl) (λ _ q k l _ _ h. absurd (omega arith))
      (λ _. refl)

  pub place_inside : 6 ≤ (sheet_fault b).number → (13 ≤ (sheet_fault b).place) × ((sheet_fault b).place < length b)
  place_inside =
      fault_cases (λ f. 6 ≤ f.number → (13 ≤ f.place) × (f.place < length b))
      (λ k _ h l. absurd (omega arith))
      (λ long q k _ _ e _.
      let f = (first_place q b w k e).found in (
        omega arith,
        omega (
          arith,
          f.offset_is,
          suc-mul f.line (line_length n),
          mul-le-mul_right {m = suc f.line} {n = w.buyers} (line_length n) f.below.0,
          f.below.1,
        ),
      ))
      (λ l. absurd (omega arith))

  -- rule 3.13: with 6, 7, 8 the place is the least offset of all places that are wrong in that way
  placed : (q : ℕ) → 6 ≤ q → (sheet_fault b).number ≡ q →
      LeastPlace w (λ i c. wrong q b w i c ≡ true) (sheet_fault b).place
  placed q l =
      fault_cases (λ f. f.number ≡ q → LeastPlace w (λ i c. wrong q b w i c ≡ true) f.place)
      (λ k _ h e. absurd (omega arith))
      (λ _ x k _ _ h e. subst (λ y. LeastPlace w (λ i c. wrong y b w i c ≡ true) (offset n (k / 2 ^ n) (k % 2 ^ n))) e
      (first_place x b w k h))
      (λ e. absurd (omega arith))

  read_as : (T U : ℕ → ℕ → Type 0) (p : ℕ) → ((i c : ℕ) → c < 2 ^ n → T i c ↔ U i c) → LeastPlace w T p →
      LeastPlace w U p
  read_as T U p same h =
      let moved : (A B : ℕ → ℕ → Type 0) (q : ℕ) → ((i c : ℕ) → c < 2 ^ n → A i c → B i c) → WrongAt w A q →
      WrongAt w B q =
      λ A B q to a. record {
        line = a.line;
        place = a.place;
        below = a.below;
        offset_is = a.offset_is;
        is_wrong = to a.line a.place a.below.1 a.is_wrong;
      } in
      record {
        found = moved T U p (λ i c g. (same i c g).0) h.found;
        least = λ q a. h.least q (moved U T q (λ i c g. (same i c g).1) a);
      }

  pub place_least :
      ((sheet_fault b).number ≡ 6 → LeastPlace w (λ i c. Malformed w i c b) (sheet_fault b).place)
      × ((sheet_fault b).number ≡ 7 → LeastPlace w (TooLarge w) (sheet_fault b).place)
      × ((sheet_fault b).number ≡ 8 → LeastPlace w (Falls w) (sheet_fault b).place)
  place_least = (
    λ e. read_as _ _ _ (λ i c g. malformed_means b w i c g) (placed 6 (omega arith) e),
    λ e. read_as _ _ _ (λ i c g. large_means b w i c) (placed 7 (omega arith) e),
    λ e. read_as _ _ _ (λ i c g. falls_means b w i c) (placed 8 (omega arith) e),
  )

  -- an accepted sheet
  module _ (accepted : (sheet_fault b).number ≡ 0) where
    yes_to : (k : ℕ) → Question b k
    yes_to = (all_yes b).0 accepted

    -- rules 1.2 and 1.4
    pub accepted_shape : Shape w
    accepted_shape =
        let m = w.buyers in
        let v = worth_in n b in
        let ws = worths_in m n b in
        let laid = worths_laid m n b in
        laid_shape m n v ws laid (yes_to 3) (yes_to 4) (λ i _. refl) (λ i s h g.
        rw (← worth_there m n v ws laid (yes_to 3).1 (yes_to 4).1 i s h g) (yes_to 7 i s h g))

    pub accepted_grows : Grows w
    accepted_grows = growing b w (empty_worth w.buyers n b) (yes_to 8)

    -- rule 3.8, step by step: a bundle within another is worth at most as much
    pub accepted_monotone : (i s t : ℕ) → i < w.buyers → s < 2 ^ n → t < 2 ^ n →
        ((j : ℕ) → j < n → bit j s ≡ true → bit j t ≡ true) → worth w i s ≤ worth w i t
    accepted_monotone i s t h g k sub =
        subset_monotone n (worth w i) (λ j x l m. accepted_grows i x j h m l) s t k sub g

    -- rules 2.6 and 2.7: its bytes are those in which its numbers are written
    written : (at : ℕ) → GoodField b at → take 6 (drop at b) ≡ columns 6 (number_at at b)
    written at h = ((field_canonical b at h.0).0 h.1).2 ∙ ap (columns 6) (sym (ap number_of h.1))

    pub accepted_written : Written b w
    accepted_written =
        record {
          long = yes_to 5;
          buyers = written 0 (yes_to 2).0;
          lots = written 6 (yes_to 2).1;
          head_end = (yes_to 2).2;
          worths = λ i c h g.
              written (offset n i c) ((yes_to 6).0 i c h g)
              ∙ ap (columns 6) (sym (worth-read w.buyers n b (yes_to 3).1 (yes_to 4).1 i c h g));
          ends = (yes_to 6).1;
        }
