-- The three demands together (`promises_hold`).
use Rattle.promises.specs.Claims.{Promises}
use Rattle.promises.proofs.First.{refusals_hold}
use Rattle.promises.proofs.Second.{records_hold}
use Rattle.promises.proofs.Third.{outcomes_hold}

pub promises_hold : Promises
promises_hold = record { first = refusals_hold; second = records_hold; third = outcomes_hold }
