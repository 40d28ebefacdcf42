-- `printed::put_buyers` meets its contract. The invariant: the lines of the first i buyers are printed.
use Rattle.std.proofs.Common.{◌≡◌}
use Rattle.theory.specs.Lists.{tabulate, over}
use Rattle.fields.specs.Fields.{lines_of}
use Rattle.printed.specs.Printed.{buyer_line}
use Rattle.printed.proofs.put_buyers.Given as goal

abbrev pub invariant-loop-i : goal.invariant-loop-i
invariant-loop-i l = l.out ≡ over (lines_of (tabulate l.i 0 (buyer_line l.r))) l.initial.out
