-- A list of numbers in the sheet's order (rule 11.2): the sheet that it fills (`list_sheet`), the bytes in which that
-- is written (`sheet_bytes`), and a sheet's numbers as such a list (`in_order`).
use Rattle.std.specs.Prelude.{◌≡◌, List, ℕ, zero, suc, ◌+◌, ◌-◌, ◌*◌, ◌/◌, ◌%◌, ◌^◌, ◌≤◌, ◌<◌, length, get_or}
use Rattle.theory.specs.Lists.{tabulate}
use Rattle.theory.specs.Markets.{Table}
use Rattle.fields.specs.Fields.{lines_of}
use Rattle.sheet.specs.Sheets.{Sheet, worth, line_worths, bytes_of}
use Rattle.sheet.specs.Tables.{table_sheet}

-- the number of bundle s on line i, counted from 0: line by line, and in each the bundles from 1 on. The list has none
-- for the empty bundle, whose worth is 0
abbrev pub listed : ℕ → List ℕ → Table
listed n vs i zero = 0
listed n vs i (suc c) = get_or vs (i * (2 ^ n - 1) + c) 0

abbrev pub list_sheet : ℕ → ℕ → List ℕ → Sheet
list_sheet m n vs = table_sheet m n (listed n vs)

-- a list that fills the lines of a sheet, with numbers of six columns
pub record Fills (m n : ℕ) (vs : List ℕ) : Type 0 where
  pub few_buyers : m ≤ 6
  pub few_lots : n ≤ 4
  pub right : length vs ≡ m * (2 ^ n - 1)
  pub small : (k : ℕ) → get_or vs k 0 < 1000000

-- the lines of worths, and the sheet
abbrev pub row_bytes : ℕ → ℕ → List ℕ → List ℕ
row_bytes m n vs = lines_of (tabulate m 0 (line_worths (list_sheet m n vs)))

unfoldable pub sheet_bytes : ℕ → ℕ → List ℕ → List ℕ
sheet_bytes m n vs = bytes_of (list_sheet m n vs)

abbrev pub in_order : Sheet → List ℕ
in_order w = let size = 2 ^ w.lots - 1 in tabulate (w.buyers * size) 0 (λ k. worth w (k / size) (suc (k % size)))
