-- `fields::read_columns` meets its contract. The invariant: what is known after k columns (`SoFar`).
use Rattle.std.proofs.Common.{take, drop, is_some, unwrap_or}
use Rattle.fields.proofs.Columns.{SoFar}
use Rattle.fields.proofs.read_columns.Given as goal

abbrev pub invariant-loop-k : goal.invariant-loop-k
invariant-loop-k l = SoFar (take 6 (drop l.at l.sheet)) l.k (is_some l.number) (unwrap_or l.number 0)
