-- `selling::try_settled` meets its contract.
use Rattle.std.proofs.Common.{rules}
use Rattle.selling.proofs.Settling.{settled_refused, settled_told}
use Rattle.selling.proofs.try_settled.Goals as goal

pub returns-in_err-sheet : goal.returns-in_err-sheet
returns-in_err-sheet c =
    settled_refused c.args.sheet.now c.in_err-sheet.field-0.0 c.in_err-sheet.ensures c.args.prices.now _ (search rules)

pub returns : goal.returns
returns c =
    settled_told c.args.sheet.now c.in_ok-sheet.sheet c.in_ok-sheet.ensures c.args.prices.now c.listed-list.result.now
    c.bundles.result c.listed-list.ensures c.bundles.ensures.is c.are_settled-settled.result
    c.are_settled-settled.ensures
