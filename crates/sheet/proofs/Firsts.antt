-- Questions in the order in which they are asked, each with a number of its own: `FirstNo` says which of them gets the
-- first "no", `first_asked` and `first_each` put one question more in front. The number is a question's exactly if that
-- is the first (`first_iff`, `first_no`), and 0 exactly if there is none (`first_none`, `first-number`). Assumes
-- numbers above 0 that differ.
use mathlib.Core.Path.{◌≡◌, refl, sym, ap, subst, ◌∙◌}
use mathlib.Core.Logic.{◌↔◌, ◌⊎◌, inl, inr}
use mathlib.Core.Bool.{Bool, true}
use mathlib.Core.List.{List, [], ◌∷◌}
use Prim.Native.Nat.{ℕ, zero, suc, ◌≤◌, ◌<◌}
use native.Mathlib.Omega.{arith}
use native.Mathlib.Decide.{ℕ_discrete, dec_lt}
use lib.ListN.{length, get_or}
use Rattle.theory.proofs.Tests.{by_test, fails, Means}
use Rattle.theory.proofs.Rounds.{by_choice}
use Rattle.sheet.specs.declared.Fault.{Fault}
use Rattle.sheet.specs.Questions.{ask, ask_each}

-- n is the number of the first question that gets a "no", 0 if there is none
abbrev pub FirstNo : (ℕ → ℕ) → List (Type 0) → ℕ → Type 0
FirstNo number [] n = n ≡ 0
FirstNo number (q ∷ qs) n = (q × FirstNo (λ i. number (suc i)) qs n) ⊎ ((q → ⊥) × (n ≡ number 0))

pub first_asked : (number : ℕ → ℕ) (q : Type 0) (qs : List (Type 0)) (x : Bool) (rest : Unit {0} → Fault) →
    Means x q → (x ≡ true → FirstNo (λ i. number (suc i)) qs (rest tt).number) →
    FirstNo number (q ∷ qs) (ask (number 0) x rest).number
first_asked number q qs x rest means f =
    by_test x (λ e. rw e (inl (means.0 e, f e))) (λ e. rw e (inr (λ h. fails (means.1 h) e, refl)))

pub first_each : (number : ℕ → ℕ) (q : Type 0) (qs : List (Type 0)) (n x : ℕ) (rest : Unit {0} → Fault) →
    (x ≡ 0) ↔ q → FirstNo (λ i. number (suc i)) qs (rest tt).number →
    FirstNo number (q ∷ qs) (ask_each (number 0) n x rest).number
first_each number q qs n x rest means f =
    by_choice x (λ e. rw e (inl (means.0 e, f))) (λ j e. rw e (inr (λ h. let z = means.1 h in omega arith, refl)))

-- the j-th question gets the first "no"
pub record NoAt (qs : List (Type 0)) (j : ℕ) : Type 0 where
  pub before : (i : ℕ) → i < j → get_or qs i (Unit {0})
  pub there : get_or qs j (Unit {0}) → ⊥

-- all get a "yes", or one gets the first "no" and has the number
pub first-told : (number : ℕ → ℕ) (qs : List (Type 0)) (n : ℕ) → FirstNo number qs n →
    ((n ≡ 0) × ((i : ℕ) → get_or qs i (Unit {0}))) ⊎ ((j : ℕ) × (j < length qs) × (n ≡ number j) × NoAt qs j)
first-told number [] n f = inl (f, λ i. tt)
first-told number (q ∷ qs) n f =
    elim f [
      | inr (no_then, e) ↦ inr (0, omega arith, e, record { before = λ i l. absurd (omega arith); there = no_then })
      | inl (y, g) ↦
          elim (first-told (λ i. number (suc i)) qs n g) [
            | inl (z, all) ↦ inl (z, with_first y all)
            | inr (j, l, e, no_at) ↦
                inr (suc j, omega arith, e, record { before = below y j no_at.before; there = no_at.there })
          ]
    ]
  where
    with_first : q → ((i : ℕ) → get_or qs i (Unit {0})) → (i : ℕ) → get_or (q ∷ qs) i (Unit {0})
    with_first y all zero = y
    with_first y all (suc i) = all i

    below : q → (j : ℕ) → ((i : ℕ) → i < j → get_or qs i (Unit {0})) → (i : ℕ) → i < suc j →
        get_or (q ∷ qs) i (Unit {0})
    below y j h zero m = y
    below y j h (suc i) m = h i (omega arith)

-- a number above 0, from which `back` tells the question
abbrev pub Tells : (ℕ → ℕ) → (ℕ → ℕ) → ℕ → Type 0
Tells number back j = (1 ≤ number j) × (back (number j) ≡ j)

module _ (number back : ℕ → ℕ) (qs : List (Type 0)) (n : ℕ) (tells : (j : ℕ) → j < length qs → Tells number back j)
    (f : FirstNo number qs n) where
  pub first_none : (n ≡ 0) ↔ ((i : ℕ) → get_or qs i (Unit {0}))
  first_none =
      elim (first-told number qs n f) [
        | inl (z, all) ↦ (λ _. all, λ _. z)
        | inr (j, l, e, no_at) ↦
            (λ z. absurd (omega (arith, (tells j l).0)), λ all. absurd (no_at.there (all j)))
      ]

  pub first_iff : (j : ℕ) → Tells number back j → (n ≡ number j) ↔ NoAt qs j
  first_iff j here =
      elim (first-told number qs n f) [
        | inl (z, all) ↦ (λ e. absurd (omega (arith, here.0)), λ h. absurd (h.there (all j)))
        | inr (i, m, e, no_at) ↦ (
          λ d. subst (NoAt qs) (sym (tells i m).1 ∙ ap back (sym e ∙ d) ∙ here.1) no_at,
          λ h. elim (ℕ_discrete i j) [
            | yes same ↦ e ∙ ap number same
            | no apart ↦
                elim (dec_lt i j) [
                  | yes less ↦ absurd (no_at.there (h.before i less))
                  | no more ↦ absurd (h.there (no_at.before j (omega arith)))
                ]
          ],
        )
      ]

  -- the same in two parts
  pub first_no : (j : ℕ) → j < length qs →
      (n ≡ number j) ↔ (((i : ℕ) → i < j → get_or qs i (Unit {0})) × (get_or qs j (Unit {0}) → ⊥))
  first_no j h =
      let (to, back) = first_iff j (tells j h) in (
        λ e. let no_at = to e in (no_at.before, no_at.there),
        λ (before, there). back (record { before = before; there = there }),
      )

  pub first-number : (n ≡ 0) ⊎ ((j : ℕ) × (j < length qs) × (n ≡ number j))
  first-number = elim (first-told number qs n f) [ inl (z, _) ↦ inl z | inr (j, l, e, _) ↦ inr (j, l, e) ]
