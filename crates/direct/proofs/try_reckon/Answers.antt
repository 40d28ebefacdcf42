-- `direct::try_reckon` meets its contract.
use Rattle.std.proofs.Common.{rules}
use Rattle.direct.proofs.Answering.{direct_refused, direct-reckoned}
use Rattle.direct.proofs.try_reckon.Goals as goal

pub returns-in_err-sheet : goal.returns-in_err-sheet
returns-in_err-sheet c =
    direct_refused c.args.sheet.now c.in_err-sheet.field-0.0 c.in_err-sheet.ensures _ (search rules)

pub returns : goal.returns
returns c =
    direct-reckoned c.args.sheet.now c.in_ok-sheet.sheet c.in_ok-sheet.ensures c.listed-list.result.now
    c.listed-list.ensures c.reckon.result c.reckon.ensures
