-- The questions in their order: what each answer says of the sheet's fault. Offers the answer of a test put to each
-- place (`place_tested`, `place_found`), a question's fault by it (`place_fault`), and one law for each way out of
-- `ask_lines` and of `ask_each`.
use mathlib.Core.Path.{◌≡◌, refl, ap, subst, ◌∙◌}
use mathlib.Core.Logic.{◌≢◌}
use mathlib.Core.Bool.{Bool}
use mathlib.Core.List.{List, []}
use Prim.Native.Nat.{ℕ, zero, suc, ◌/◌, ◌%◌, ◌^◌}
use native.Mathlib.Omega.{arith}
use borrow.Author.Tests.{ne_eqb}
use Rattle.std.specs.Prelude.{Option, Some, None}
use Rattle.sheet.specs.declared.Fault.{Fault}
use Rattle.sheet.specs.Sheets.{offset, Sheet, as_sheet}
use Rattle.sheet.specs.Questions.{fault, ask_each, first_wrong, lines_fault}
use Rattle.sheet.specs.Refusals.{fault_at}
use Rattle.lines.specs.Places.{place_of}

-- the code divides by the number of places of a line
pub place_tested : (n z k : ℕ) (t : ℕ → ℕ → Bool) (r : Bool) → z ≡ 2 ^ n → r ≡ t (k / z) (k % z) →
    r ≡ t (k / 2 ^ n) (k % 2 ^ n)
place_tested n z k t r e h = rw e at h

pub place_found : (n z k at x : ℕ) → z ≡ 2 ^ n → at ≡ offset n (k / z) (k % z) → suc k ≡ x → Some at ≡ place_of n x
place_found n z k at x e h f = ap Some (h ∙ ap (λ y. offset n (k / y) (k % y)) e) ∙ ap (place_of n) f

-- a question's fault by the first place that is wrong
pub place_fault : (q n x : ℕ) → fault_at q (place_of n x) ≡ ask_each q n x (λ _. fault 0 0)
place_fault q n zero = refl
place_fault q n (suc k) = refl

-- what its answer says of the questions after it
abbrev pub Asked : ℕ → ℕ → ℕ → Option ℕ → Type 0
Asked q n x o = fault_at (suc q) o ≡ ask_each (suc q) n x (λ _. fault 0 0)

refused_by : (q n x p : ℕ) (rest : Unit {0} → Fault) → Asked q n x (Some p) →
    fault (suc q) p ≡ ask_each (suc q) n x rest
refused_by q n zero p rest e = absurd (let z : suc q ≡ 0 = ap (λ (f : Fault). f.number) e in omega arith)
refused_by q n (suc k) p rest e = e

pub passed_by : (q n x : ℕ) → Asked q n x None → x ≡ 0
passed_by q n zero e = refl
passed_by q n (suc k) e = absurd (let z : 0 ≡ suc q = ap (λ (f : Fault). f.number) e in omega arith)

-- the same of any number r that the question goes by
numbered : (q r n x : ℕ) (o : Option ℕ) → Asked q n x o → fault_at r o ≡ ask_each r n x (λ _. fault 0 0)
numbered q r n zero None e = refl
numbered q r n zero (Some p) e = absurd (let z : suc q ≡ 0 = ap (λ (f : Fault). f.number) e in omega arith)
numbered q r n (suc k) None e = absurd (let z : 0 ≡ suc q = ap (λ (f : Fault). f.number) e in omega arith)
numbered q r n (suc k) (Some p) e = ap (fault r) (ap (λ (f : Fault). f.place) e)

-- questions 6, 7 and 8 of a sheet b with the numbers ws
module _ (b ws : List ℕ) (m n : ℕ) where
  abbrev w : Sheet
  w = as_sheet m n ws

  abbrev pub Six : Option ℕ → Type 0
  Six = Asked 5 n (first_wrong 6 b (as_sheet m n []))

  abbrev pub Seven : Option ℕ → Type 0
  Seven = Asked 6 n (first_wrong 7 [] w)

  abbrev pub Eight : Option ℕ → Type 0
  Eight = Asked 7 n (first_wrong 8 [] w)

  -- question 6 looks at no number, and 7 and 8 at no byte
  by_bytes : first_wrong 6 b (as_sheet m n []) ≡ first_wrong 6 b w
  unfolding first_wrong
  by_bytes = refl

  by_numbers : (first_wrong 7 [] w ≡ first_wrong 7 b w) × (first_wrong 8 [] w ≡ first_wrong 8 b w)
  unfolding first_wrong
  by_numbers = (refl, refl)

  -- one question by its number: 6, 7 or any other
  pub each_malformed : (o : Option ℕ) → Six o → fault_at 6 o ≡ ask_each 6 n (first_wrong 6 b w) (λ _. fault 0 0)
  each_malformed o e = rw by_bytes at e

  pub each_large : (o : Option ℕ) → Seven o → fault_at 7 o ≡ ask_each 7 n (first_wrong 7 b w) (λ _. fault 0 0)
  each_large o e = rw by_numbers.0 at e

  pub each_falling : (q : ℕ) (o : Option ℕ) → q ≢ 6 → q ≢ 7 → Eight o →
      fault_at q o ≡ ask_each q n (first_wrong q b w) (λ _. fault 0 0)
  unfolding first_wrong
  each_falling q o six seven e =
      let falls : first_wrong 8 [] w ≡ first_wrong q b w = rw (ne_eqb q 6 six, ne_eqb q 7 seven) refl in
      numbered 7 q n (first_wrong q b w) o (subst (λ x. Asked 7 n x o) falls e)

  pub lines-malformed : (p : ℕ) → Six (Some p) → fault 6 p ≡ lines_fault b w
  unfolding lines_fault
  lines-malformed p e = refused_by 5 n (first_wrong 6 b w) p _ (rw by_bytes at e)

  module _ (six : Six None) where
    no_six : first_wrong 6 b w ≡ 0
    no_six = passed_by 5 n (first_wrong 6 b w) (rw by_bytes at six)

    pub lines_large : (p : ℕ) → Seven (Some p) → fault 7 p ≡ lines_fault b w
    unfolding lines_fault
    lines_large p e = rw no_six (refused_by 6 n (first_wrong 7 b w) p _ (rw by_numbers.0 at e))

    module _ (seven : Seven None) where
      no_seven : first_wrong 7 b w ≡ 0
      no_seven = passed_by 6 n (first_wrong 7 b w) (rw by_numbers.0 at seven)

      pub lines-last : (o : Option ℕ) → Eight o → fault_at 8 o ≡ lines_fault b w
      unfolding lines_fault
      lines-last o e = rw (no_six, no_seven) (rw by_numbers.1 at e)
