use Rattle.std.proofs.Common.{◌+◌, sym, ◌∙◌, arith}
use Rattle.theory.proofs.Loops.{every_passed, every_failed, every_done}
use Rattle.closing.specs.Supplies.{word_supplied}
use Rattle.closing.proofs.Demands.all_supplied.Goals as goal

pub returns-then-not-supplied : goal.returns-then-not-supplied
returns-then-not-supplied c =
    let bidders = c.args.self.now.prices.bidders in
    every_failed
    (word_supplied bidders.low bidders.buyers c.args.self.now.sets c.args.self.now.prices.numbers.now c.args.list.now)
    (bidders.buyers + 1) c.loop-e.e _ (omega arith) c.loop-e.invariant
    (sym c.is_supplied-supplied.ensures ∙ c.if-not-supplied.true)

pub loop-e-preserved : goal.loop-e-preserved
loop-e-preserved c =
    let bidders = c.args.self.now.prices.bidders in
    every_passed
    (word_supplied bidders.low bidders.buyers c.args.self.now.sets c.args.self.now.prices.numbers.now c.args.list.now)
    (bidders.buyers + 1) c.loop-e.e _ (omega arith) c.loop-e.invariant
    (sym c.is_supplied-supplied.ensures ∙ c.if-not-supplied.false)

pub returns : goal.returns
returns c =
    let bidders = c.args.self.now.prices.bidders in
    every_done
    (word_supplied bidders.low bidders.buyers c.args.self.now.sets c.args.self.now.prices.numbers.now c.args.list.now)
    (bidders.buyers + 1) c.loop-e.e _ (omega arith) c.loop-e.invariant
