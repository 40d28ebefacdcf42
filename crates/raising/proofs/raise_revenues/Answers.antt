use Rattle.std.proofs.Common.{◌≡◌, ◌+◌, ◌-◌, ◌≤◌, set, not, ap, ◌∙◌, arith}
use lib.Pow.{pow_mono}
use Rattle.theory.specs.Sums.{when}
use Rattle.theory.specs.Kept.{around}
use Rattle.theory.proofs.Loops.{Revised, revised_none, revised_set}
use Rattle.owners.specs.Quick.{present_in, roster}
use Rattle.supply.specs.Supply.{at}
use Rattle.raising.proofs.Counting.{one_if, one_most, common_present, Raised, raised}
use Rattle.raising.proofs.raise_revenues.Goals as goal
use Rattle.raising.proofs.raise_revenues.Goals.{After-from}

pub loop-e-init : goal.loop-e-init
loop-e-init c = revised_none _ 7 _ c.told-revenues

pub common-requires : goal.common-requires
common-requires c = omega (arith, pow_mono {i = c.args.economies.buyers} {j = 6} c.args.economies.few.0)

pub has-requires : goal.has-requires
has-requires c = omega (arith, pow_mono {i = c.args.economies.buyers} {j = 6} c.args.economies.few.0)

pub overflow_add-up : goal.overflow_add-up
overflow_add-up c =
    let l = c.loop-e in
    omega (arith, l.invariant.rest l.e (omega arith), c.requires.1 l.e (omega arith), c.common.ensures.few)

pub overflow_sub-revenues : goal.overflow_sub-revenues
overflow_sub-revenues c =
    let l = c.loop-e in
    let one : c.from.result ≤ 1 = rw c.from.ensures (one_most _) in
    omega (arith, l.invariant.rest l.e (omega arith), c.requires.1 l.e (omega arith))

-- the revenue of one economy more is raised
step : (c : After-from) →
    Revised (Raised c.args.economies.buyers c.args.revenues.now c.args.words.now c.args.set) 7 c.args.revenues.now
    (c.loop-e.e + 1)
    (set c.loop-e.revenues c.loop-e.e (at c.loop-e.revenues c.loop-e.e + c.common.result - c.from.result))
step c =
    let l = c.loop-e in
    let a = c.args in
    let m = a.economies.buyers in
    let e = l.e in
    let up : at l.revenues e + c.common.result ≡ at a.revenues.now e + around (roster m) (present_in e) a.set =
    omega (
      arith,
      l.invariant.rest e (omega arith),
      common_present a.set c.all_but.result c.common.result m e a.economies.few.0 c.all_but.ensures
          (c.common.ensures.is m c.requires.0),
    ) in
    revised_set _ 7 a.revenues.now e l.revenues l.invariant (omega arith) _
    (raised m a.revenues.now a.words.now a.set e _ c.from.result up
    (c.from.ensures ∙ one_if (not c.has.result) ∙ ap (λ b. when (not b) 1) c.has.ensures)
    (omega (arith, l.invariant.rest e (omega arith), c.requires.1 e (omega arith))))

pub loop-e-preserved : goal.loop-e-preserved
loop-e-preserved c = step (goal.at.loop-e-preserved c).After-from

pub returns : goal.returns
returns c = (c.loop-e.invariant.long, λ e h. c.loop-e.invariant.done e (omega arith))

pub returns-2 : goal.returns-2
returns-2 c =
    let all = step (goal.at.returns-2 c).After-from in (all.long, λ e h. all.done e (omega arith))
