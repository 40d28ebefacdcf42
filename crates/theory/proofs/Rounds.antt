-- Laws of rounds. `after_one` has the last round apart. Two processes in a relation make the same choices
-- (`choices_same`, `choices_agree`). Rounds that each take something from what is left end in time (`choices_settle`,
-- `choices_few`), and what they take and what is left make up what there was (`choices_sizes`).
use mathlib.Core.Path.{◌≡◌, refl, sym, ap, ◌∙◌}
use mathlib.Core.List.{List, [], ◌∷◌}
use Prim.Native.Nat.{ℕ, zero, suc, ◌+◌, ◌≤◌, ◌<◌}
use native.Mathlib.Omega.{arith}
use lib.ListN.{length, take, get_or}
use lib.Seq.{take-length}
use Rattle.theory.specs.Lists.{sum_over}
use Rattle.theory.specs.Rounds.{choices, after}

-- a proof by cases of a choice, each with its equation
pub by_choice : {P : Type 0} (n : ℕ) → (n ≡ 0 → P) → ((x : ℕ) → n ≡ suc x → P) → P
by_choice zero h k = h refl
by_choice (suc x) h k = k x refl

-- the state after one choice more
pub after_one : {S : Type 0} (step : ℕ → S → S) (σ : S) (l : List ℕ) (k : ℕ) → k < length l →
    after step σ (take (suc k) l) ≡ step (get_or l k 0) (after step σ (take k l))
after_one step σ [] k h = absurd (omega arith)
after_one step σ (x ∷ l) zero h = refl
after_one step σ (x ∷ l) (suc k) h = after_one step (step x σ) l k (omega arith)

-- two processes whose states stay in a relation that makes their choices equal
module _
    {S U : Type 0} (choose : S → ℕ) (step : ℕ → S → S) (choose' : U → ℕ) (step' : ℕ → U → U) (R : S → U → Type 0)
    (same : (σ : S) (τ : U) → R σ τ → choose σ ≡ choose' τ)
    (keeps : (σ : S) (τ : U) (x : ℕ) → R σ τ → choose σ ≡ suc x → R (step x σ) (step' x τ)) where
  pub choices_same : (f : ℕ) (σ : S) (τ : U) → R σ τ → choices choose step f σ ≡ choices choose' step' f τ
  choices_same zero σ τ r = refl
  choices_same (suc f) σ τ r =
      rw (← (same σ τ r))
      (by_choice (choose σ)
      (λ e. rw e)
      (λ x e. rw (e, choices_same f (step x σ) (step' x τ) (keeps σ τ x r e))))

  pub choices_along_both : (f : ℕ) (σ : S) (τ : U) (k : ℕ) → R σ τ →
      R (after step σ (take k (choices choose step f σ))) (after step' τ (take k (choices choose step f σ)))
  choices_along_both f σ τ zero r = r
  choices_along_both zero σ τ (suc k) r = r
  choices_along_both (suc f) σ τ (suc k) r =
      by_choice (choose σ)
      (λ e. rw e r)
      (λ x e. rw e (choices_along_both f (step x σ) (step' x τ) k (keeps σ τ x r e)))

  pub choices_related : (f : ℕ) (σ : S) (τ : U) → R σ τ →
      R (after step σ (choices choose step f σ)) (after step' τ (choices choose step f σ))
  choices_related f σ τ r = rw take-length at (choices_along_both f σ τ (length (choices choose step f σ)) r)

-- a second process that does what the first does, at each state of the first
module _ {S : Type 0} (choose choose' : S → ℕ) (step step' : ℕ → S → S) where
  abbrev pub Agree : S → Type 0
  Agree σ = (choose σ ≡ choose' σ) × ((x : ℕ) → choose σ ≡ suc x → step x σ ≡ step' x σ)

  pub choices_agree : (f : ℕ) (σ : S) →
      ((k : ℕ) → k ≤ length (choices choose step f σ) → Agree (after step σ (take k (choices choose step f σ)))) →
      (choices choose' step' f σ ≡ choices choose step f σ) ×
      (after step' σ (choices choose step f σ) ≡ after step σ (choices choose step f σ))
  choices_agree zero σ h = (refl, refl)
  choices_agree (suc f) σ h =
      let (same, steps) = h 0 (omega arith) in
      rw (← same)
      (by_choice (choose σ)
      (λ e. rw e (refl, refl))
      (λ x e.
      let next = rw e at h in
      let (c, a) = choices_agree f (step x σ) (λ k l. next (suc k) (omega arith)) in
      let back = sym (steps x e) in
      rw e (
        ap (λ τ. x ∷ choices choose' step' f τ) back ∙ ap (λ l. x ∷ l) c,
        ap (λ τ. after step' τ (choices choose step f (step x σ))) back ∙ a,
      )))

module _ {S : Type 0} (choose : S → ℕ) (step : ℕ → S → S) where
  abbrev taken : ℕ → S → List ℕ
  taken f σ = choices choose step f σ

  -- each choice is the state's when its round comes
  pub choices-chosen : (f : ℕ) (σ : S) (k : ℕ) → k < length (taken f σ) →
      choose (after step σ (take k (taken f σ))) ≡ suc (get_or (taken f σ) k 0)
  choices-chosen zero σ k h = absurd (omega arith)
  choices-chosen (suc f) σ zero h =
      by_choice (choose σ) (λ e. let z : 0 < 0 = rw e at h in absurd (omega arith)) (λ x e. rw e)
  choices-chosen (suc f) σ (suc k) h =
      by_choice (choose σ)
      (λ e. let z : suc k < 0 = rw e at h in absurd (omega arith))
      (λ x e. let z = rw e at h in rw e (choices-chosen f (step x σ) k (omega arith)))

  -- the states that come up are good
  module _ (Good : S → Type 0) (good : (σ : S) (x : ℕ) → Good σ → choose σ ≡ suc x → Good (step x σ)) where
    pub choices_along : (f : ℕ) (σ : S) (k : ℕ) → Good σ → Good (after step σ (take k (taken f σ)))
    choices_along f σ zero g = g
    choices_along zero σ (suc k) g = g
    choices_along (suc f) σ (suc k) g =
        by_choice (choose σ) (λ e. rw e g) (λ x e. rw e (choices_along f (step x σ) k (good σ x g e)))

    -- a round takes the size of its choice, 1 or more, from what is left
    module _
        (left : S → ℕ) (size : ℕ → ℕ)
        (falls : (σ : S) (x : ℕ) → Good σ → choose σ ≡ suc x → (1 ≤ size x) × (size x + left (step x σ) ≡ left σ)) where
      pub choices_settle : (f : ℕ) (σ : S) → Good σ → left σ ≤ f → choose (after step σ (taken f σ)) ≡ 0
      choices_settle zero σ g h = by_choice (choose σ) (λ e. e) (λ x e. absurd (omega (arith, falls σ x g e)))
      choices_settle (suc f) σ g h =
          by_choice (choose σ)
          (λ e. rw e e)
          (λ x e. rw e (choices_settle f (step x σ) (good σ x g e) (omega (arith, falls σ x g e))))

      pub choices_sizes : (f : ℕ) (σ : S) → Good σ →
          sum_over size (taken f σ) + left (after step σ (taken f σ)) ≡ left σ
      choices_sizes zero σ g = omega arith
      choices_sizes (suc f) σ g =
          by_choice (choose σ)
          (λ e. rw e (omega arith))
          (λ x e. rw e (omega (arith, falls σ x g e, choices_sizes f (step x σ) (good σ x g e))))

      pub choices_few : (f : ℕ) (σ : S) → Good σ → length (taken f σ) ≤ left σ
      choices_few zero σ g = omega arith
      choices_few (suc f) σ g =
          by_choice (choose σ)
          (λ e. rw e (omega arith))
          (λ x e. rw e (omega (arith, falls σ x g e, choices_few f (step x σ) (good σ x g e))))
