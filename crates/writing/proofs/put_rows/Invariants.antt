-- `writing::put_rows` meets its contract. The invariant: the first i lines are written.
use Rattle.std.proofs.Common.{◌≡◌}
use Rattle.theory.specs.Lists.{tabulate, over}
use Rattle.fields.specs.Fields.{lines_of}
use Rattle.sheet.specs.Sheets.{line_worths}
use Rattle.writing.specs.Lists.{list_sheet}
use Rattle.writing.proofs.put_rows.Given as goal

abbrev pub invariant-loop-i : goal.invariant-loop-i
invariant-loop-i l =
    let z = l.fn.size in
    l.out ≡ over (lines_of (tabulate l.i 0 (line_worths (list_sheet z.buyers z.lots l.worths)))) l.initial.out
