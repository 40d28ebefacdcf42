-- `claim::claim_holds` meets its contract.
use Rattle.claim.proofs.Claim.{claim_holds}
use Rattle.claim.proofs.Shown.{shown}
use Rattle.claim.proofs.claim_holds.Goals as goal

pub returns : goal.returns
returns c = (claim_holds, shown)
