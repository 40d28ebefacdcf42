use Rattle.std.proofs.Common.{◌+◌, ◌≤◌, sym, ap, ◌∙◌, rules, arith}
use Rattle.theory.specs.Tests.{every}
use Rattle.theory.proofs.Loops.{every_passed, every_failed, every_done}
use Rattle.totals.proofs.Digits.{bidders-count}
use Rattle.closing.specs.Supplies.{served_by}
use Rattle.closing.proofs.Demands.all_present_served.Goals as goal

pub loop-i-init : goal.loop-i-init
loop-i-init c =
    let d = c.args.self.now in
    let bidders = d.prices.bidders in
    let first : bidders.low ≤ 1 = search rules in
    ap (λ n. every n bidders.low (served_by d.sets c.args.absent c.args.word))
    (bidders-count bidders.low bidders.buyers first)

pub returns-then-not-is_served : goal.returns-then-not-is_served
returns-then-not-is_served c =
    let d = c.args.self.now in
    every_failed (served_by d.sets c.args.absent c.args.word) (d.prices.bidders.buyers + 1) c.loop-i.i _ (omega arith)
    c.loop-i.invariant (sym c.is_served.ensures ∙ c.if-not-is_served.true)

pub loop-i-preserved : goal.loop-i-preserved
loop-i-preserved c =
    let d = c.args.self.now in
    every_passed (served_by d.sets c.args.absent c.args.word) (d.prices.bidders.buyers + 1) c.loop-i.i _ (omega arith)
    c.loop-i.invariant (sym c.is_served.ensures ∙ c.if-not-is_served.false)

pub returns : goal.returns
returns c =
    let d = c.args.self.now in
    every_done (served_by d.sets c.args.absent c.args.word) (d.prices.bidders.buyers + 1) c.loop-i.i _ (omega arith)
    c.loop-i.invariant
