-- `printed::put_lots` meets its contract. The invariant: the lines of the first j lots are printed.
use Rattle.std.proofs.Common.{◌≡◌}
use Rattle.theory.specs.Lists.{tabulate, over}
use Rattle.fields.specs.Fields.{lines_of}
use Rattle.printed.specs.Printed.{lot_line}
use Rattle.printed.proofs.put_lots.Given as goal

abbrev pub invariant-loop-j : goal.invariant-loop-j
invariant-loop-j l = l.out ≡ over (lines_of (tabulate l.j 0 (lot_line l.owners))) l.initial.out
