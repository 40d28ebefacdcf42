-- `totals::values` meets its contract. The invariant, for each set: the greater of its value and the totals from this
-- word on is that of all.
use Rattle.std.proofs.Common.{◌≡◌, ℕ, max, length, drop, get_or}
use Rattle.theory.specs.Lists.{most}
use Rattle.totals.specs.Totals.{word_total_by}
use Rattle.totals.proofs.values.Given as goal

abbrev pub invariant-loop-word : goal.invariant-loop-word
invariant-loop-word l =
    let total = word_total_by l.table.bidders.low l.table.bidders.buyers l.table.numbers.now in
    (length l.values ≡ 64)
    × ((n : ℕ) → max (get_or l.values n 0) (most (total n) (drop l.word-index l.list)) ≡ most (total n) l.list)
