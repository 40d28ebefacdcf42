-- `closing::Demands::all_supplied` meets its contract. The invariant: the economies from e on are left to be looked at.
use Rattle.std.proofs.Common.{◌≡◌, ◌+◌, ◌-◌}
use Rattle.theory.specs.Tests.{every}
use Rattle.closing.specs.Supplies.{word_supplied}
use Rattle.closing.proofs.Demands.all_supplied.Given as goal

abbrev pub invariant-loop-e : goal.invariant-loop-e
invariant-loop-e l =
    let bidders = l.self.prices.bidders in
    let supplies = word_supplied bidders.low bidders.buyers l.self.sets l.self.prices.numbers.now l.list in
    every (bidders.buyers + 1 - l.e) l.e supplies ≡ every (bidders.buyers + 1) 0 supplies
