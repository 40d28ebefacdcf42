-- `trial::is_asked` meets its contract. The invariant: the fields from k on are left to be tested.
use Rattle.std.proofs.Common.{◌-◌, ◌≡◌, ◌*◌}
use Rattle.theory.specs.Tests.{every}
use Rattle.fields.specs.Fields.{field_at, good}
use Rattle.trial.proofs.Fields.{good_fields}
use Rattle.trial.proofs.is_asked.Given as goal

abbrev pub invariant-loop-k : goal.invariant-loop-k
invariant-loop-k l = every (4 - l.k) l.k (λ j. good (field_at (6 * j) l.numbers)) ≡ good_fields l.numbers
