-- The example of a printed sale (rule 6.5), and table 3's, byte by byte: their numbers have one digit each.
use Rattle.std.specs.Prelude.{◌≡◌, List, [], ◌∷◌, ◌++◌, ℕ, ◌+◌}
use Rattle.printed.specs.Printed.{printed_sale}

-- five blanks and a digit
abbrev pub digit : ℕ → List ℕ
digit d = 32 ∷ 32 ∷ 32 ∷ 32 ∷ 32 ∷ (48 + d) ∷ []

abbrev pub row : List ℕ → List ℕ
row [] = 10 ∷ []
row (d ∷ ds) = digit d ++ row ds

-- the sheet of the example
abbrev pub input : List ℕ
input = row (2 ∷ 2 ∷ []) ++ row (2 ∷ 0 ∷ 2 ∷ []) ++ row (0 ∷ 1 ∷ 3 ∷ [])

-- its printed sale, whole
abbrev pub output : List ℕ
output = row (0 ∷ 2 ∷ 2 ∷ 2 ∷ []) ++ row (1 ∷ 1 ∷ []) ++ row (2 ∷ 2 ∷ []) ++ row (1 ∷ 2 ∷ 0 ∷ 2 ∷ [])
    ++ row (2 ∷ 0 ∷ 0 ∷ 0 ∷ [])

-- table 3 of the paper, where rounds and lots differ, and so do prices, discounts and payments
abbrev pub table_3 : List ℕ
table_3 = row (3 ∷ 2 ∷ []) ++ row (3 ∷ 0 ∷ 3 ∷ []) ++ row (0 ∷ 6 ∷ 6 ∷ []) ++ row (0 ∷ 2 ∷ 4 ∷ [])

abbrev pub table_3_print : List ℕ
table_3_print =
    row (0 ∷ 3 ∷ 2 ∷ 9 ∷ []) ++ row (1 ∷ 1 ∷ []) ++ row (2 ∷ 2 ∷ [])
    ++ row (1 ∷ 2 ∷ 2 ∷ 0 ∷ []) ++ row (2 ∷ 4 ∷ 2 ∷ 2 ∷ []) ++ row (3 ∷ 0 ∷ 0 ∷ 0 ∷ [])

abbrev pub Example : Type 0
Example = (printed_sale input ≡ output) × (printed_sale table_3 ≡ table_3_print)
