-- `trial::trials_hold` meets its contract.
use Rattle.trial.proofs.Trials.{trials_all}
use Rattle.trial.proofs.trials_hold.Goals as goal

pub returns : goal.returns
returns c = trials_all
