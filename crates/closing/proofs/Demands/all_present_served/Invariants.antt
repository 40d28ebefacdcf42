-- `closing::Demands::all_present_served` meets its contract. The invariant: the bidders from i on are left to be asked.
use Rattle.std.proofs.Common.{◌≡◌, ◌+◌, ◌-◌}
use Rattle.theory.specs.Tests.{every}
use Rattle.closing.specs.Supplies.{served_by, present_served}
use Rattle.closing.proofs.Demands.all_present_served.Given as goal

abbrev pub invariant-loop-i : goal.invariant-loop-i
invariant-loop-i l =
    let bidders = l.self.prices.bidders in
    every (bidders.buyers + 1 - l.i) l.i (served_by l.self.sets l.absent l.word)
    ≡ present_served bidders.low bidders.buyers l.self.sets l.absent l.word
