-- `demand::wants` meets its contract.
use Rattle.std.proofs.Common.{eqb}
use mathlib.Core.Path.{ap₂}
use Rattle.demand.proofs.Quotes.wants.Goals as goal

pub returns : goal.returns
returns c = ap₂ eqb c.payoff_of.ensures.is c.best_of.ensures.is
