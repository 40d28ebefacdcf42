-- Lists: the greatest value, sums, the members that pass a test, the first that passes, order, lists of values.
-- Offers `◌∈◌`, `most`, `sum_over`, `keep`, `first`, `Ordered`, `tabulate`, `up_to` and `over`.
use Rattle.std.specs.Prelude.{Bool, ℕ, zero, suc, max, ◌+◌, length, drop}
use mathlib.Core.List.{List, [], ◌∷◌, ◌++◌, Memᴰ}
use Rattle.theory.specs.Sums.{pick}

module _ {A : Type 0} where
  infix 50 ◌∈◌
  abbrev pub ◌∈◌ : A → List A → Type 0
  a ∈ l = Memᴰ a l

  -- the greatest value, 0 for an empty list
  abbrev pub most : (A → ℕ) → List A → ℕ
  most f [] = 0
  most f (a ∷ l) = max (f a) (most f l)

  abbrev pub sum_over : (A → ℕ) → List A → ℕ
  sum_over f [] = 0
  sum_over f (a ∷ l) = f a + sum_over f l

  abbrev pub keep : (A → Bool) → List A → List A
  keep t [] = []
  keep t (a ∷ l) = pick (t a) (a ∷ keep t l) (keep t l)

  -- the first member that passes, `d` if none does
  abbrev pub first : (A → Bool) → A → List A → A
  first t d [] = d
  first t d (a ∷ l) = let r = first t d l in pick (t a) a r

  -- each member stands in the relation to all that come after it
  abbrev pub Ordered : (A → A → Type 0) → List A → Type 0
  Ordered R [] = Unit {0}
  Ordered R (a ∷ l) = ((b : A) → b ∈ l → R a b) × Ordered R l

-- the values of the k numbers from s on
abbrev pub tabulate : {A : Type 0} → ℕ → ℕ → (ℕ → A) → List A
tabulate zero s f = []
tabulate (suc k) s f = f s ∷ tabulate k (suc s) f

-- those numbers
abbrev pub up_to : ℕ → ℕ → List ℕ
up_to k s = tabulate k s (λ i. i)

-- the list ys with xs written at its front; what comes after keeps its old values
abbrev pub over : List ℕ → List ℕ → List ℕ
over xs ys = xs ++ drop (length xs) ys
