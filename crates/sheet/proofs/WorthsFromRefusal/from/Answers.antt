-- `sheet::Worths::from` meets its contract.
use Rattle.std.proofs.Common.{ap}
use Rattle.sheet.specs.declared.Fault.{Fault}
use Rattle.sheet.specs.Answers.{refusal}
use Rattle.sheet.proofs.WorthsFromRefusal.from.Goals as goal

pub returns : goal.returns
unfolding refusal
returns c = ap (λ (f : Fault). refusal f.number f.place) c.from-fault.ensures
