use Rattle.std.proofs.Common.{◌∙◌, ap, ◌+◌, arith}
use Rattle.lists.proofs.Bundles.{held_first, held_small, held_owned, held_not, held_all}
use Rattle.lists.proofs.bundle_of.Goals as goal
use Rattle.lists.proofs.bundle_of.Goals.{then-from-i, else-from-i}

pub loop-lot-init : goal.loop-lot-init
loop-lot-init c = held_first c.args.owners c.args.lots c.args.i

pub overflow_add-bundle : goal.overflow_add-bundle
overflow_add-bundle c =
    omega (
      arith,
      held_small c.args.owners c.args.lots c.args.i c.loop-lot.lot c.loop-lot.bundle c.loop-lot.invariant
          (omega arith),
    )

pub loop-lot-preserved : goal.loop-lot-preserved
loop-lot-preserved c =
    let z = c.args in
    let l = c.loop-lot in
    elim c.if-from-i.branch [
      | then-from-i w ↦
          held_owned z.owners z.lots z.i l.lot l.bundle l.invariant c.loop-lot-test.true (omega arith)
          c.from.result c.from.ensures c.if-from-i.bundle w.if-from-i.true
          (w.bundle-is ∙ ap (λ n. l.bundle + n) w.power-bundle.ensures.is)
      | else-from-i w ↦
          held_not z.owners z.lots z.i l.lot l.bundle l.invariant c.loop-lot-test.true (omega arith)
          c.from.result c.from.ensures c.if-from-i.bundle w.if-from-i.false w.bundle-is
    ]

pub returns : goal.returns
returns c =
    let z = c.args in
    let l = c.loop-lot in
    record {
      is = held_all z.owners z.lots z.i l.lot l.bundle l.invariant (omega arith);
      most = held_small z.owners z.lots z.i l.lot l.bundle l.invariant (omega arith);
    }
