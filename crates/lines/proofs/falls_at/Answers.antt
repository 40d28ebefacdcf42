-- `lines::falls_at` meets its contract.
use Rattle.std.proofs.Common.{arith}
use Rattle.sheet.specs.Sheets.{as_sheet}
use Rattle.lines.proofs.Places.{falls_field}
use Rattle.lines.proofs.falls_at.Goals as goal

pub returns-then-c-bundles : goal.returns-then-c-bundles
returns-then-c-bundles c =
    let z = c.args in
    falls_field (as_sheet 0 z.size.lots z.numbers.now) z.i z.c (omega (arith, c.bundles.ensures.is)) c.grows_to.result
    c.grows_to.ensures
