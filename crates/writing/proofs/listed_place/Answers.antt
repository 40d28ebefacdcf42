-- `writing::listed_place` meets its contract.
use Rattle.std.proofs.Common.{◌+◌, ◌-◌, ◌*◌, ◌/◌, ◌%◌, get_or, sym, ap, ◌∙◌}
use Rattle.writing.proofs.Cells.{place_worth}
use Rattle.writing.specs.Lists.{listed}
use Rattle.writing.proofs.listed_place.Goals as goal

pub returns : goal.returns
returns c =
    let z = c.args in
    ap (λ x. get_or z.worths.now (z.k / 16 * (x - 1) + (z.k % 16 - 1)) 0) c.bundles.ensures.is
    ∙ place_worth z.size.buyers z.size.lots (listed z.size.lots z.worths.now) z.k
    (sym c.has_worth.ensures ∙ c.if-not-has_worth.false)
