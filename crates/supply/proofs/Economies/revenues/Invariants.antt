-- `supply::Economies::revenues` meets its contract. The invariant: the revenues of the economies before e stand in
-- their places.
use Rattle.theory.proofs.Loops.{Filled}
use Rattle.supply.specs.Supply.{greatest}
use Rattle.supply.proofs.Economies.revenues.Given as goal

abbrev pub invariant-loop-e : goal.invariant-loop-e
invariant-loop-e l = Filled (greatest l.self.buyers l.gains) 7 l.e l.next
