-- Rounds: while a state has a choice, take it. A choice is given as 1 more than its number, 0 where there is none.
-- Offers `choices`, the choices of some rounds, and `after`, the state after some choices.
use Rattle.std.specs.Prelude.{List, [], ◌∷◌, ℕ, zero, suc}

-- a where there is no choice, f of the choice where there is one
abbrev pub on : {A : Type 0} → ℕ → A → (ℕ → A) → A
on zero a f = a
on (suc n) a f = f n

-- the choices of at most f rounds from a state on
abbrev pub choices : {S : Type 0} → (S → ℕ) → (ℕ → S → S) → ℕ → S → List ℕ
choices choose step zero σ = []
choices choose step (suc f) σ = on (choose σ) [] (λ x. x ∷ choices choose step f (step x σ))

-- the state after some choices
abbrev pub after : {S : Type 0} → (ℕ → S → S) → S → List ℕ → S
after step σ [] = σ
after step σ (x ∷ xs) = after step (step x σ) xs
