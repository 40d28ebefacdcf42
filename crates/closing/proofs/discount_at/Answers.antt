-- `closing::discount_at` meets its contract.
use Rattle.std.proofs.Common.{sym, ◌∙◌, arith}
use Rattle.offers.proofs.Places.{place_taken}
use Rattle.closing.specs.Closings.{discount_by}
use Rattle.closing.proofs.discount_at.Goals as goal

pub returns : goal.returns
returns c =
    c.saturating_sub.ensures
    ∙ sym (place_taken c.args.buyers (discount_by c.args.revenues) c.args.k (omega arith))
