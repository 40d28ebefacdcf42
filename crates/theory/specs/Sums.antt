-- Choices by a Boolean, and sums over a range of numbers.
-- Offers `pick`, `when`, `sum`, and `Among`, the numbers of a range.
use Rattle.std.specs.Prelude.{Bool, true, false, ℕ, zero, suc, ◌+◌, ◌≤◌, ◌<◌}

abbrev pub pick : {A : Type 0} → Bool → A → A → A
pick true a b = a
pick false a b = b

abbrev pub when : Bool → ℕ → ℕ
when true n = n
when false n = 0

-- f s + .. + f (s + k - 1)
abbrev pub sum : ℕ → ℕ → (ℕ → ℕ) → ℕ
sum zero s f = 0
sum (suc k) s f = f s + sum k (suc s) f

-- i is one of the k numbers from s on
abbrev pub Among : ℕ → ℕ → ℕ → Type 0
Among k s i = (s ≤ i) × (i < s + k)
