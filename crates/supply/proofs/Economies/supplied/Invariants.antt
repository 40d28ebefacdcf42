-- `supply::Economies::supplied` meets its contract. The invariant: a set is in an economy's word, or a set from k on
-- supplies it there, exactly if some set does.
use Rattle.supply.proofs.Choosing.{Scanned}
use Rattle.supply.proofs.Economies.supplied.Given as goal

abbrev pub invariant-loop-k : goal.invariant-loop-k
invariant-loop-k l = Scanned l.self.buyers l.self.last l.gains l.revenues l.k l.words
