-- `lines::has_worth` meets its contract.
use Rattle.std.proofs.Common.{sym, ◌∙◌, ◌/◌}
use borrow.Author.Tests.{ltb-true}
use Rattle.theory.proofs.Tests.{fails}
use Rattle.lines.proofs.Places.{by_bundle}
use Rattle.lines.proofs.has_worth.Goals as goal
use Rattle.lines.proofs.has_worth.Goals.{then-s-ne0, else-s-ne0}

pub returns-then-k-m : goal.returns-then-k-m
returns-then-k-m c =
    let z = c.args in
    elim c.if-s-ne0.branch [
      | then-s-ne0 w ↦
          by_bundle z.m z.n z.k c.bundles.result w.if-s-ne0.true
          (ltb-true (z.k / 16) z.m (sym w.value-is ∙ c.if-k-m.true)) c.bundles.ensures.is
      | else-s-ne0 w ↦ fails c.if-k-m.true (w.value-is ∙ rw w.if-s-ne0.false)
    ]
