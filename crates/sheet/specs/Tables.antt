-- A table of worths, by line and bundle, as a sheet (`table_sheet`). Lines are counted from 0.
use Rattle.std.specs.Prelude.{Bool, ◌&&◌, List, ℕ, ◌/◌, ◌%◌, ◌^◌, ltb, leb}
use Rattle.theory.specs.Sums.{when}
use Rattle.theory.specs.Lists.{tabulate}
use Rattle.theory.specs.Markets.{Table}
use Rattle.sheet.specs.Sheets.{Sheet, as_sheet}

-- the worth of bundle s on line i: those of absent buyers and bundles are 0
abbrev pub cell : ℕ → ℕ → Table → ℕ → ℕ → ℕ
cell m n v i s = when (ltb i m && ltb s (2 ^ n)) (v i s)

-- the worth at place k, sixteen to a line
abbrev pub cell_at : ℕ → ℕ → Table → ℕ → ℕ
cell_at m n v k = cell m n v (k / 16) (k % 16)

-- whether it is a bundle's: the buyer and the bundle are there, and the bundle is not the empty one
abbrev pub has_worth : ℕ → ℕ → ℕ → Bool
has_worth m n k = leb 1 (k % 16) && (ltb (k / 16) m && ltb (k % 16) (2 ^ n))

unfoldable pub cells : ℕ → ℕ → Table → List ℕ
cells m n v = tabulate 96 0 (cell_at m n v)

abbrev pub table_sheet : ℕ → ℕ → Table → Sheet
table_sheet m n v = as_sheet m n (cells m n v)
