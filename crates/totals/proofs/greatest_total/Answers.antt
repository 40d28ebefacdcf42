use Rattle.std.proofs.Common.{◌≡◌, ap, ◌∙◌, get_or, arith}
use Rattle.theory.specs.Sums.{when}
use Rattle.theory.proofs.Loops.{most_next}
use Rattle.totals.specs.Totals.{word_in, word_total_in}
use Rattle.totals.proofs.greatest_total.Goals as goal

pub loop-word-preserved : goal.loop-word-preserved
loop-word-preserved c =
    let t = c.args.table.now in
    let l = c.loop-word in
    let word = get_or c.args.list.now l.word-index 0 in
    let total : c.total_in.result
    ≡ word_total_in t.bidders.low t.bidders.buyers t.numbers.now c.args.absent word =
    c.total_in.ensures ∙ ap (when (word_in c.args.absent word)) c.total_of.ensures.is in
    most_next c.args.list.now l.word-index (omega arith)
    (word_total_in t.bidders.low t.bidders.buyers t.numbers.now c.args.absent) l.greatest _ _ l.invariant
    (omega (arith, total))
