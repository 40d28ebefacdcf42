-- `raising::Valuations::raise_row` meets its contract. The invariant: the row is raised for the bundles below s.
use Rattle.std.proofs.Common.{◌≡◌}
use Rattle.raising.specs.Raising.{raised_row}
use Rattle.raising.proofs.Valuations.raise_row.Given as goal

abbrev pub invariant-loop-s : goal.invariant-loop-s
invariant-loop-s l =
    l.prices ≡ raised_row l.s l.self.worths.now l.i l.left l.initial.prices
