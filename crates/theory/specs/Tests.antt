-- Tests of all numbers of a range and of some member of a list, and the least number of a range that passes.
-- Offers `◌⊃◌`, `every`, `some` and `least`.
use Rattle.std.specs.Prelude.{Bool, true, false, not, ◌&&◌, ◌||◌, List, [], ◌∷◌, ℕ, zero, suc}
use Rattle.theory.specs.Sums.{pick}

-- x implies y
infixr 25 ◌⊃◌
abbrev pub ◌⊃◌ : Bool → Bool → Bool
x ⊃ y = not x || y

-- of the k numbers from s on
abbrev pub every : ℕ → ℕ → (ℕ → Bool) → Bool
every zero s t = true
every (suc k) s t = t s && every k (suc s) t

abbrev pub some : {A : Type 0} → (A → Bool) → List A → Bool
some t [] = false
some t (a ∷ l) = t a || some t l

-- 1 more than the least of the k numbers from s on that passes, 0 if none does
abbrev pub least : ℕ → ℕ → (ℕ → Bool) → ℕ
least zero s t = 0
least (suc k) s t = let r = least k (suc s) t in pick (t s) (suc s) r
