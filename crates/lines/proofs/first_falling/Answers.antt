-- `lines::first_falling` meets its contract.
use Rattle.std.proofs.Common.{rules}
use Rattle.sheet.specs.Sheets.{as_sheet}
use Rattle.sheet.specs.Questions.{falls, first_wrong}
use Rattle.lines.proofs.Asking.{place_fault}
use Rattle.lines.proofs.first_falling.Goals as goal

pub returns : goal.returns
unfolding first_wrong
returns c =
    let n = c.args.size.lots in
    let first =
    c.first_place.ensures (falls (as_sheet 0 n c.args.numbers.now)) (λ i p r h g e. search rules) in
    rw first (place_fault 8 n _)
