-- `lines::first_malformed` meets its contract.
use Rattle.std.proofs.Common.{[], rules}
use Rattle.sheet.specs.Sheets.{as_sheet}
use Rattle.sheet.specs.Questions.{malformed, first_wrong}
use Rattle.lines.proofs.Asking.{place_fault}
use Rattle.lines.proofs.first_malformed.Goals as goal

pub returns : goal.returns
unfolding first_wrong
returns c =
    let n = c.args.size.lots in
    let first =
    c.first_place.ensures (λ i p. malformed (as_sheet 0 n []) i p c.args.sheet.now) (λ i p r h g e. search rules) in
    rw first (place_fault 6 n _)
