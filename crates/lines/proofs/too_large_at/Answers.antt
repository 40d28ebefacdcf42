-- `lines::too_large_at` meets its contract.
use Rattle.std.proofs.Common.{arith}
use Rattle.sheet.specs.Sheets.{as_sheet}
use Rattle.lines.proofs.Places.{large_field}
use Rattle.lines.proofs.too_large_at.Goals as goal

pub returns-then-c-bundles : goal.returns-then-c-bundles
returns-then-c-bundles c =
    let z = c.args in
    large_field (as_sheet 0 z.size.lots z.numbers.now) z.i z.c (omega (arith, c.bundles.ensures.is))
