-- `totals::greatest_total` meets its contract. The invariant: the greater of the number so far and the totals from this
-- word on is that of all.
use Rattle.std.proofs.Common.{◌≡◌, max, drop}
use Rattle.theory.specs.Lists.{most}
use Rattle.totals.specs.Totals.{word_total_in}
use Rattle.totals.proofs.greatest_total.Given as goal

abbrev pub invariant-loop-word : goal.invariant-loop-word
invariant-loop-word l =
    let total = word_total_in l.table.bidders.low l.table.bidders.buyers l.table.numbers.now l.absent in
    max l.greatest (most total (drop l.word-index l.list)) ≡ most total l.list
