use Rattle.std.proofs.Common.{refl, ◌∙◌, arith}
use lib.ListN.{length-set}
use Rattle.theory.proofs.Lists.{zeros-at}
use Rattle.totals.proofs.Digits.{value_raised}
use Rattle.totals.proofs.values.Goals as goal

pub loop-word-init : goal.loop-word-init
loop-word-init c = (refl, λ n. omega (arith, zeros-at 64 n))

pub loop-word-preserved : goal.loop-word-preserved
loop-word-preserved c =
    let t = c.args.table.now in
    let l = c.loop-word in
    let set = c.set_of-set in
    let total = c.total_of in (
      length-set l.values set.result _ ∙ l.invariant.0,
      λ n. value_raised t.bidders.low t.bidders.buyers t.numbers.now c.args.list.now l.values l.word-index set.result
          total.result n _ (omega arith) set.ensures.is total.ensures.is (l.invariant.1 n)
          (omega (arith, set.ensures.most)) _ (omega arith),
    )
