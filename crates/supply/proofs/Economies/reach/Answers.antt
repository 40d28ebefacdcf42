use Rattle.std.proofs.Common.{◌+◌, arith}
use Rattle.theory.proofs.Loops.{Revised}
use Rattle.supply.proofs.Choosing.{Reached, joins_lower, joins_outside, joins_more}
use Rattle.supply.proofs.Economies.reach.Goals as goal
use Rattle.supply.proofs.Economies.reach.Goals.{Joined-gain-revenues}
use Rattle.supply.proofs.Economies.reach.Goals.{then-gain-revenues+then-is_inside, else-gain-revenues}
use Rattle.supply.proofs.Economies.reach.Goals.{else-gain-revenues-via-then-gain-revenues+else-is_inside}
use Rattle.supply.proofs.Economies.reach.Goals.{else-gain-revenues-via-else-gain-revenues}

-- the words of one economy more are gone over
step : (c : Joined-gain-revenues) →
    Revised (Reached c.args.self.buyers c.args.revenues.now c.args.gain c.args.k c.args.words.now) 7 c.args.words.now
    (c.loop-e.e + 1) c.if-gain-revenues.words
step c =
    let l = c.loop-e in
    let z = c.args in
    let m = z.self.buyers in
    elim c.if-gain-revenues.branch [
      | then-gain-revenues+then-is_inside w ↦
          joins_more m z.revenues.now z.gain z.k z.words.now l.e l.words _
          l.invariant _ w.is_inside.ensures (omega arith) w.if-gain-revenues.true w.if-is_inside.true _
          w.covered.ensures w.words-is
      | else-gain-revenues w ↦ elim w.else-gain-revenues.branch [
        | else-gain-revenues-via-then-gain-revenues+else-is_inside v ↦
            joins_outside m z.revenues.now z.gain z.k z.words.now l.e l.words _
            l.invariant _ v.is_inside.ensures v.if-is_inside.false w.words-is
        | else-gain-revenues-via-else-gain-revenues v ↦
            joins_lower m z.revenues.now z.gain z.k z.words.now l.e l.words _
            l.invariant v.if-gain-revenues.false w.words-is
      ]
    ]

pub loop-e-preserved : goal.loop-e-preserved
loop-e-preserved c = step (goal.at.loop-e-preserved c).Joined-gain-revenues

pub returns-after-gain-revenues : goal.returns-after-gain-revenues
returns-after-gain-revenues c =
    let all = step (goal.at.returns-after-gain-revenues c).Joined-gain-revenues in
    λ e h. all.done e (omega arith)
