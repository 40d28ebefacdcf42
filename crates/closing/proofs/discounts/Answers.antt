-- `closing::discounts` meets its contract.
use Rattle.std.proofs.Common.{rules}
use Rattle.theory.proofs.Arrays.{made_by}
use Rattle.offers.specs.Places.{at_place, per_buyer}
use Rattle.closing.specs.Closings.{discount_by}
use Rattle.closing.proofs.discounts.Goals as goal

pub returns : goal.returns
unfolding per_buyer
returns c =
    made_by _ (at_place c.args.buyers (discount_by c.args.revenues)) 6 _ (λ i y d h call. search rules) _
    c.from_fn.ensures.items
