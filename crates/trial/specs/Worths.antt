-- The worths of a trial sheet (rules 12.3 and 12.4), by its number, the lots and the top: a table (`trial_table`), and
-- the list of it in the sheet's order (`trial_list`). Lines are counted from 0.
use Rattle.std.specs.Prelude.{List, [], ◌∷◌, ◌++◌, ℕ, zero, suc, min, ◌+◌, ◌-◌, ◌*◌, ◌/◌, ◌%◌, ◌^◌, get_or}
use Rattle.theory.specs.Sums.{when}
use Rattle.theory.specs.Lists.{most, tabulate, up_to}
use Rattle.theory.specs.Markets.{Table}
use Rattle.numbers.specs.Numbers.{bit}
use Rattle.generator.specs.Xorwow.{draw_number}

-- the worth of bundle s, by the worths of the bundles from 1 on; the empty bundle is worth 0
abbrev pub row_worth : List ℕ → ℕ → ℕ
row_worth row zero = 0
row_worth row (suc c) = get_or row c 0

-- by worths v: what bundle s is worth without its lot j + 1, 0 if it has not that lot; and the greatest worth with one
-- lot fewer
abbrev pub worth_without : (ℕ → ℕ) → ℕ → ℕ → ℕ
worth_without v s j = when (bit j s) (v (s - 2 ^ j))

abbrev pub most_fewer : ℕ → (ℕ → ℕ) → ℕ → ℕ
most_fewer n v s = most (worth_without v s) (up_to n 0)

-- a worth, by that and a draw
abbrev pub drawn_worth : ℕ → ℕ → ℕ → ℕ
drawn_worth top fewer value = min 9999 (fewer + value % suc top)

-- a buyer's worths of the bundles from 1 to k, upward; `draws s` is the draw for bundle s
abbrev pub row_up_to : ℕ → ℕ → (ℕ → ℕ) → ℕ → List ℕ
row_up_to n top draws zero = []
row_up_to n top draws (suc c) =
    let row = row_up_to n top draws c in
    row ++ (drawn_worth top (most_fewer n (row_worth row) (suc c)) (draws (suc c)) ∷ [])

-- rule 12.3: the draw for bundle s on line i of sheet number N
abbrev pub draw_for : ℕ → ℕ → ℕ → ℕ → ℕ
draw_for N n i s = draw_number (100 * N + (i * (2 ^ n - 1) + s))

abbrev pub trial_table : ℕ → ℕ → ℕ → Table
trial_table N n top i s = row_worth (row_up_to n top (draw_for N n i) s) s

-- the worth at a place of the list, from 0 on
abbrev pub trial_at : ℕ → ℕ → ℕ → ℕ → ℕ
trial_at N n top k = let size = 2 ^ n - 1 in trial_table N n top (k / size) (suc (k % size))

unfoldable pub trial_list : ℕ → ℕ → ℕ → ℕ → List ℕ
trial_list N m n top = tabulate (m * (2 ^ n - 1)) 0 (trial_at N n top)

-- ninety of them, as many as the greatest sheet has
unfoldable pub most_worths : ℕ → ℕ → ℕ → List ℕ
most_worths N n top = tabulate 90 0 (trial_at N n top)
