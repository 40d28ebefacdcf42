use Rattle.std.proofs.Common.{arith}
use Rattle.theory.proofs.Lists.{zeros-at}
use Rattle.supply.proofs.Choosing.{scan_start, scan_more, scan_pass, scan_end}
use Rattle.supply.proofs.Economies.supplied.Goals as goal
use Rattle.supply.proofs.Economies.supplied.Goals.{then-least-gains, else-least-gains}

pub loop-k-init : goal.loop-k-init
loop-k-init c =
    scan_start c.args.self.buyers c.args.self.last c.args.gains.now c.args.revenues.now _ (zeros-at 7)

pub loop-k-preserved : goal.loop-k-preserved
loop-k-preserved c =
    let l = c.loop-k in
    let z = c.args in
    let words = c.if-least-gains.words in
    elim c.if-least-gains.branch [
      | then-least-gains w ↦
          scan_more z.self.buyers z.self.last z.gains.now z.revenues.now l.k l.words words
          l.invariant (omega (arith, c.loop-k-test.true)) _ w.reach.ensures w.words-is
      | else-least-gains w ↦
          scan_pass z.self.buyers z.self.last z.gains.now z.revenues.now l.k l.words words
          l.invariant (omega (arith, c.loop-k-test.true)) c.least_of-least.result c.least_of-least.ensures
          w.if-least-gains.false w.words-is
    ]

pub returns : goal.returns
returns c =
    scan_end c.args.self.buyers c.args.self.last c.args.gains.now c.args.revenues.now c.loop-k.k c.loop-k.words
    c.loop-k.words c.loop-k.invariant (omega (arith, c.loop-k-test.false))
