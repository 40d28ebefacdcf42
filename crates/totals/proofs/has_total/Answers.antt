-- `totals::has_total` meets its contract.
use Rattle.std.proofs.Common.{ap, eqb}
use Rattle.totals.proofs.has_total.Goals as goal

pub returns : goal.returns
returns c = ap (λ x. eqb x c.args.total) c.total_of.ensures.is
