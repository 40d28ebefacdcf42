-- `lines::grows_to` meets its contract. The invariant: the lots from j on are left to be tested.
use Rattle.std.proofs.Common.{◌≡◌, ◌-◌}
use Rattle.theory.specs.Tests.{every}
use Rattle.lines.proofs.Places.{grows_by}
use Rattle.lines.proofs.grows_to.Given as goal

abbrev pub invariant-loop-j : goal.invariant-loop-j
invariant-loop-j l =
    every (l.fn.size.lots - l.j) l.j (grows_by l.numbers l.i l.s) ≡ every l.fn.size.lots 0 (grows_by l.numbers l.i l.s)
