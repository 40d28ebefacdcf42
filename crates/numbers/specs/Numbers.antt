-- Numbers as the code has them. Offers what a function says that answers a bounded number (`Is`), and the bits of a
-- number (`bit`).
use Rattle.std.specs.Prelude.{◌≡◌, Bool, ℕ, ◌/◌, ◌%◌, ◌^◌, ◌≤◌, eqb}

-- r is x, and at most m
pub record Is (x r m : ℕ) : Type 0 where
  pub is : r ≡ x
  pub most : r ≤ m

-- whether a number has bit j; in the number of a bundle that is for lot j + 1 (rule 1.3)
abbrev pub bit : ℕ → ℕ → Bool
bit j s = eqb (s / 2 ^ j % 2) 1
