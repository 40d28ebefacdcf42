-- Answers have six places for the buyers (`per_buyer`) and four for the owners (`four`).
use Rattle.std.specs.Prelude.{List, ◌++◌, ℕ, suc, ◌-◌, ltb, length, replicate}
use Rattle.theory.specs.Sums.{when}
use Rattle.theory.specs.Lists.{tabulate}

-- place k is buyer k + 1's; absent buyers have 0 (rule 5.4)
abbrev pub at_place : ℕ → (ℕ → ℕ) → ℕ → ℕ
at_place m f k = when (ltb k m) (f (suc k))

unfoldable pub per_buyer : ℕ → (ℕ → ℕ) → List ℕ
per_buyer m f = tabulate 6 0 (at_place m f)

-- rule 1.8: four places, with 0 in those past the last lot
abbrev pub four : List ℕ → List ℕ
four a = a ++ replicate (4 - length a) 0
