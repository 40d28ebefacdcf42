use Rattle.std.proofs.Common.{◌+◌, ◌≤◌, ap, rules, arith}
use Rattle.theory.proofs.Loops.{sum_more}
use Rattle.owners.specs.Prices.{entry}
use Rattle.lists.specs.Words.{digit}
use Rattle.totals.proofs.Digits.{bidders-sum}
use Rattle.totals.proofs.total_of.Goals as goal

pub loop-i-init : goal.loop-i-init
loop-i-init c =
    let t = c.args.table.now in
    let first : t.bidders.low ≤ 1 = search rules in
    let whole = bidders-sum t.bidders.low t.bidders.buyers (λ i. entry t.numbers.now i (digit i c.args.word)) first in
    (omega arith, omega (arith, whole))

pub loop-i-preserved : goal.loop-i-preserved
loop-i-preserved c =
    let t = c.args.table.now in
    let i = c.loop-i.i in
    let e = c.entry-total in (
      omega (arith, e.ensures.most),
      sum_more (t.bidders.buyers + 1) i (omega arith) (λ i. entry t.numbers.now i (digit i c.args.word)) c.loop-i.total _
          _ c.loop-i.invariant.1 (omega (arith, e.ensures.is, ap (entry t.numbers.now i) c.digit_of.ensures.is)),
    )
