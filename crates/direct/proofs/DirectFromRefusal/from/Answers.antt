-- `Direct::from` meets its contract.
use Rattle.std.proofs.Common.{ap}
use Rattle.direct.specs.Answers.{refused_direct}
use Rattle.direct.proofs.DirectFromRefusal.from.Goals as goal

pub returns : goal.returns
unfolding refused_direct
returns c = ap refused_direct c.from-fault.ensures
