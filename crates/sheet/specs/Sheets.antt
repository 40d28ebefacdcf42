-- What the bytes of a lot sheet say: where each field stands, and the sheet's buyers, lots and worths (`sheet_of`),
-- whether or not it is accepted; and the bytes in which such numbers are written (`bytes_of`). Lines of worths are
-- counted from 0, so buyer i has line i - 1; the places of a line from 0, so bundle s has place s - 1.
use Rattle.std.specs.Prelude.{◌&&◌, List, [], ◌∷◌, ℕ, zero, suc, ◌+◌, ◌-◌, ◌*◌, ◌/◌, ◌%◌, ◌^◌, ltb, get_or}
use Rattle.theory.specs.Sums.{when}
use Rattle.theory.specs.Lists.{tabulate}
use Rattle.fields.specs.Fields.{number_at, lines_of}

-- rule 2.7: a line has a field of six columns for each bundle but the empty one, and the line end
abbrev pub line_length : ℕ → ℕ
line_length n = 6 * (2 ^ n - 1) + 1

-- where place c of line i begins: the field of bundle c + 1, or the line end for c = 2 ^ n - 1. The first line has 13
-- bytes.
abbrev pub offset : ℕ → ℕ → ℕ → ℕ
offset n i c = 13 + (i * line_length n + 6 * c)

-- buyers, lots, and ninety-six worths (valuations), sixteen to a buyer; those of the empty bundle, absent bundles and
-- absent buyers are 0
pub record Sheet : Type 0 where
  pub buyers : ℕ
  pub lots : ℕ
  pub worths : List ℕ

abbrev pub as_sheet : ℕ → ℕ → List ℕ → Sheet
as_sheet m n ws = record { buyers = m; lots = n; worths = ws }

-- rule 1.4: the empty bundle has worth 0
abbrev pub worth_in : ℕ → List ℕ → ℕ → ℕ → ℕ
worth_in n b i zero = 0
worth_in n b i (suc c) = number_at (offset n i c) b

abbrev pub worth_place : ℕ → ℕ → List ℕ → ℕ → ℕ → ℕ
worth_place m n b i s = when (ltb i m && ltb s (2 ^ n)) (worth_in n b i s)

unfoldable pub worths_in : ℕ → ℕ → List ℕ → List ℕ
worths_in m n b = tabulate 96 0 (λ k. worth_place m n b (k / 16) (k % 16))

abbrev pub sheet_of : List ℕ → Sheet
sheet_of b = let m = number_at 0 b in let n = number_at 6 b in as_sheet m n (worths_in m n b)

-- the worth of bundle s on line i
abbrev pub worth : Sheet → ℕ → ℕ → ℕ
worth w i s = get_or w.worths (16 * i + s) 0

-- the numbers of line i, and the bytes of a sheet
abbrev pub line_worths : Sheet → ℕ → List ℕ
line_worths w i = tabulate (2 ^ w.lots - 1) 1 (worth w i)

abbrev pub bytes_of : Sheet → List ℕ
bytes_of w = lines_of ((w.buyers ∷ w.lots ∷ []) ∷ tabulate w.buyers 0 (line_worths w))
