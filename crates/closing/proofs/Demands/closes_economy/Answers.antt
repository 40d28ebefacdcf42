-- `closing::Demands::closes_economy` meets its contract: the tests in turn, of the economy, everybody served, enough
-- brought.
use Rattle.std.proofs.Common.{◌≡◌, Bool, true, ◌&&◌, leb, sym, ap, ◌∙◌}
use Rattle.theory.proofs.Tests.{fails}
use Rattle.closing.proofs.Demands.closes_economy.Goals as goal
use Rattle.closing.proofs.Demands.closes_economy.Goals.{then-in_economy, else-in_economy}

brings : (one all rest r : Bool) → one ≡ true → all ≡ true → r ≡ rest → r ≡ (one && (all && rest))
brings one all rest r e f is = rw (e, f) is

pub returns-then-all_present_served : goal.returns-then-all_present_served
returns-then-all_present_served c =
    elim c.if-in_economy.branch [
      | then-in_economy w ↦
          brings _ _ _ _ (sym c.in_economy.ensures ∙ w.if-in_economy.true)
          (sym w.all_present_served.ensures ∙ sym w.value-is ∙ c.if-all_present_served.true)
          (ap (leb c.args.least) c.total_of.ensures.is)
      | else-in_economy w ↦ fails (sym w.value-is ∙ c.if-all_present_served.true) w.if-in_economy.false
    ]
