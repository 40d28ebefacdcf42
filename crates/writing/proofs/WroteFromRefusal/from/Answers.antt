-- `writing::Wrote::from` meets its contract.
use Rattle.std.proofs.Common.{ap}
use Rattle.sheet.specs.declared.Fault.{Fault}
use Rattle.writing.proofs.Answers.{wrote}
use Rattle.writing.proofs.WroteFromRefusal.from.Goals as goal

pub returns : goal.returns
returns c = ap (λ (f : Fault). wrote f.number f.place 0) c.from-fault.ensures
