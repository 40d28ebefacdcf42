-- Answers made of a fault (`Told`, `told`): which number and place such an answer has, what it is where it accepts, and
-- where it refuses. The fault of an entry that asks a question of its own is the sheet's, none, or that question's
-- (`asked_first`, `asked_yes`, `asked_no`); none has place 0 (`asked_place`). With a "yes" it is the sheet's
-- (`asked_same`).
use mathlib.Core.Path.{◌≡◌, refl, sym, ap, ap₂, ◌∙◌}
use mathlib.Core.Logic.{◌≢◌}
use mathlib.Core.Bool.{Bool, true, false}
use Prim.Native.Nat.{ℕ, ◌≤◌}
use native.Mathlib.Omega.{arith}
use borrow.Author.Tests.{eqb-true, eqb-false, eq-eqb, ne_eqb}
use Rattle.theory.proofs.Tests.{by_test}
use Rattle.sheet.specs.declared.Fault.{Fault}
use Rattle.sheet.specs.Questions.{fault, accepts, onward, ask}

-- r answers with the fault g: `good` where it is none, and else `bad`, with its number and place
pub record Told {A : Type 0} (number place : A → ℕ) (good : A) (bad : Fault → A) (g : Fault) (r : A) : Type 0 where
  pub numbered : number r ≡ g.number
  pub placed : (g.number ≡ 0 → g.place ≡ 0) → place r ≡ g.place
  pub accepted : g.number ≡ 0 → r ≡ good
  pub refused : number r ≢ 0 → r ≡ bad (fault (number r) (place r))

pub told : {A : Type 0} (number place : A → ℕ) (good : A) (bad : Fault → A) → number good ≡ 0 → place good ≡ 0 →
    ((g : Fault) → number (bad g) ≡ g.number) → ((g : Fault) → place (bad g) ≡ g.place) → (g : Fault) (r : A) →
    r ≡ onward (accepts g) (λ _. good) (bad g) → Told number place good bad g r
told number place good bad number_good place_good number_bad place_bad g r e =
    by_test (accepts g)
    (λ t.
    let none = eqb-true g.number 0 t in
    let is : r ≡ good = rw t at e in
    let zero = ap number is ∙ number_good in
    record {
      numbered = zero ∙ sym none;
      placed = λ h. ap place is ∙ place_good ∙ sym (h none);
      accepted = λ _. is;
      refused = λ h. absurd (h zero);
    })
    (λ t.
    let is : r ≡ bad g = rw t at e in
    let same = ap number is ∙ number_bad g in
    record {
      numbered = same;
      placed = λ _. ap place is ∙ place_bad g;
      accepted = λ z. absurd (eqb-false g.number 0 t z);
      refused = λ _. is ∙ ap bad (ap₂ fault (sym same) (sym (ap place is ∙ place_bad g)));
    })

-- the fault of an entry with a question of its own, x
module _ (own : ℕ) (x : Bool) (f : Fault) where
  abbrev pub asked : Fault
  asked = onward (accepts f) (λ _. ask own x λ _. fault 0 0) f

  pub asked_first : f.number ≢ 0 → asked ≡ f
  asked_first h = rw (ne_eqb f.number 0 h)

  module _ (z : f.number ≡ 0) where
    pub asked_yes : x ≡ true → asked ≡ fault 0 0
    asked_yes t = rw (eq-eqb f.number 0 z, t)

    pub asked_no : x ≡ false → asked ≡ fault own 0
    asked_no t = rw (eq-eqb f.number 0 z, t)

  pub asked_none : 1 ≤ own → asked.number ≡ 0 → (f.number ≡ 0) × (x ≡ true)
  asked_none some z =
      by_test (accepts f)
      (λ t.
      let none = eqb-true f.number 0 t in
      by_test x (λ u. (none, u)) (λ u. absurd (let e = ap (λ (g : Fault). g.number) (asked_no none u) in omega arith)))
      (λ t.
      let some_fault = eqb-false f.number 0 t in
      absurd (some_fault (ap (λ (g : Fault). g.number) (sym (asked_first some_fault)) ∙ z)))

  pub asked_place : 1 ≤ own → asked.number ≡ 0 → asked.place ≡ 0
  asked_place some z = let (none, t) = asked_none some z in ap (λ (g : Fault). g.place) (asked_yes none t)

pub asked_same : (own : ℕ) (f : Fault) → (f.number ≡ 0 → f.place ≡ 0) → asked own true f ≡ f
asked_same own f h =
    by_test (accepts f)
    (λ t. let none = eqb-true f.number 0 t in asked_yes own true f none refl ∙ ap₂ fault (sym none) (sym (h none)))
    (λ t. asked_first own true f (eqb-false f.number 0 t))
