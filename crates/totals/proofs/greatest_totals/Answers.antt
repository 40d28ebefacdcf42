use Rattle.std.proofs.Common.{refl, arith}
use Rattle.theory.proofs.Lists.{zeros-at}
use Rattle.totals.proofs.Digits.{reached_none, reached_more, reached_all}
use Rattle.totals.proofs.greatest_totals.Goals as goal

pub loop-word-init : goal.loop-word-init
loop-word-init c =
    let t = c.args.table.now in
    reached_none t.bidders.low t.bidders.buyers t.numbers.now c.args.list.now _ refl (zeros-at 7)

pub loop-word-preserved : goal.loop-word-preserved
loop-word-preserved c =
    let t = c.args.table.now in
    let l = c.loop-word in
    let total = c.total_of-total in
    let r = c.raise_greatest in
    reached_more t.bidders.low t.bidders.buyers t.numbers.now c.args.list.now l.word-index l.greatest l.invariant
    (omega arith) total.result total.ensures.is total.ensures.most _ r.ensures.0 r.ensures.1 r.ensures.2

pub returns : goal.returns
returns c =
    let t = c.args.table.now in
    let l = c.loop-word in (
      reached_all t.bidders.low t.bidders.buyers t.numbers.now c.args.list.now l.word-index l.greatest l.invariant
          (omega arith),
      l.invariant.past,
    )
