-- By words, for an economy: whether every bidder present demands what it owns, whether a word closes it (for that of
-- all bidders, the sale), and whether some word does.
use Rattle.std.specs.Prelude.{Bool, ◌&&◌, List, ℕ, leb, get_or}
use Rattle.theory.specs.Sums.{when}
use Rattle.theory.specs.Lists.{most, tabulate}
use Rattle.theory.specs.Tests.{◌⊃◌, every, some}
use Rattle.numbers.specs.Numbers.{bit}
use Rattle.owners.specs.Prices.{bidders, demand_set}
use Rattle.owners.specs.Quick.{present_in}
use Rattle.demand.specs.Demands.{quoted}
use Rattle.lists.specs.Words.{digit}
use Rattle.totals.specs.Totals.{word_total, word_in, word_total_in}

-- bidder i's demand set, 0 for a number that is no bidder's; and those of the numbers 0 to 6
abbrev pub demand_at : ℕ → ℕ → ℕ → List ℕ → List ℕ → ℕ → ℕ
demand_at low m all ws ps i = when (leb low i && leb i m) (demand_set all (quoted all ws ps) i)

unfoldable pub demand_sets : ℕ → ℕ → ℕ → List ℕ → List ℕ → List ℕ
demand_sets low m all ws ps = tabulate 7 0 (demand_at low m all ws ps)

-- by the demand sets: bidder i demands what it owns, or is not present in the economy e
abbrev pub served_by : List ℕ → ℕ → ℕ → ℕ → Bool
served_by sets e w i = present_in e i ⊃ bit (digit i w) (get_or sets i 0)

abbrev pub present_served : ℕ → ℕ → List ℕ → ℕ → ℕ → Bool
present_served low m sets e w = every (bidders low m) low (served_by sets e w)

-- it is one of the economy, serves everybody present (who is not keen demands the empty bundle), and brings T or more
abbrev pub economy_closes : ℕ → ℕ → List ℕ → List ℕ → ℕ → ℕ → ℕ → Bool
economy_closes low m sets ps e T w = word_in e w && (present_served low m sets e w && leb T (word_total low m ps w))

-- some word of the list l does, and brings the revenue
abbrev pub word_supplied : ℕ → ℕ → List ℕ → List ℕ → List ℕ → ℕ → Bool
word_supplied low m sets ps l e = some (economy_closes low m sets ps e (most (word_total_in low m ps e) l)) l
