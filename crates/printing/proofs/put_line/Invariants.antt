-- `printing::put_line` meets its contract. The invariant: the first k numbers are printed.
use Rattle.std.proofs.Common.{◌≡◌, take}
use Rattle.theory.specs.Lists.{over}
use Rattle.fields.specs.Fields.{fields_of}
use Rattle.printing.proofs.put_line.Given as goal

abbrev pub invariant-loop-k : goal.invariant-loop-k
invariant-loop-k l = l.out ≡ over (fields_of (take l.k l.numbers)) l.initial.out
