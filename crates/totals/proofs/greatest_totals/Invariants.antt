-- `totals::greatest_totals` meets its contract. The invariant, for each economy: the greater of its number so far and
-- the totals from this word on is that of all.
use Rattle.totals.proofs.Digits.{Reached}
use Rattle.totals.proofs.greatest_totals.Given as goal

abbrev pub invariant-loop-word : goal.invariant-loop-word
invariant-loop-word l =
    Reached l.table.bidders.low l.table.bidders.buyers l.table.numbers.now l.list l.word-index l.greatest
