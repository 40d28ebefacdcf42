-- `closing::Demands::is_served` meets its contract.
use Rattle.std.proofs.Common.{◌≡◌, Bool, true, sym, ◌∙◌}
use mathlib.Core.Path.{ap₂}
use Rattle.theory.specs.Tests.{◌⊃◌}
use Rattle.numbers.specs.Numbers.{bit}
use Rattle.closing.proofs.Demands.is_served.Goals as goal

asked : (p wanted r : Bool) → p ≡ true → r ≡ wanted → r ≡ (p ⊃ wanted)
asked p wanted r e is = rw e is

pub returns-else-not-is_present : goal.returns-else-not-is_present
returns-else-not-is_present c =
    asked _ _ _ (sym c.is_present.ensures ∙ c.if-not-is_present.false)
    (c.has.ensures ∙ ap₂ bit c.digit_of.ensures.is c.from.ensures)
