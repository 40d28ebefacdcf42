-- `lines::first_large` meets its contract.
use Rattle.std.proofs.Common.{rules}
use Rattle.sheet.specs.Sheets.{as_sheet}
use Rattle.sheet.specs.Questions.{too_large, first_wrong}
use Rattle.lines.proofs.Asking.{place_fault}
use Rattle.lines.proofs.first_large.Goals as goal

pub returns : goal.returns
unfolding first_wrong
returns c =
    let n = c.args.size.lots in
    let first =
    c.first_place.ensures (too_large (as_sheet 0 n c.args.numbers.now)) (λ i p r h g e. search rules) in
    rw first (place_fault 7 n _)
