-- The first place of a sheet's lines at which a test holds, as its offset (`first_place`).
use Rattle.std.specs.Prelude.{Bool, ℕ, zero, suc, ◌*◌, ◌/◌, ◌%◌, ◌^◌, Option, Some, None}
use Rattle.theory.specs.Tests.{least}
use Rattle.sheet.specs.Sheets.{offset}

-- as `least` counts the places of n lots' lines: 0 for none, 1 more than the place
abbrev pub place_of : ℕ → ℕ → Option ℕ
place_of n zero = None
place_of n (suc j) = Some (offset n (j / 2 ^ n) (j % 2 ^ n))

-- among the places of m lines, by the line and the place in it
abbrev pub first_place : ℕ → ℕ → (ℕ → ℕ → Bool) → Option ℕ
first_place m n t = place_of n (least (m * 2 ^ n) 0 (λ j. t (j / 2 ^ n) (j % 2 ^ n)))
