-- `printing::put_field` meets its contract. The invariant: the last k columns are printed, and `rest` is what is left.
use Rattle.std.proofs.Common.{◌≡◌, ◌/◌, ◌^◌}
use Rattle.printing.proofs.Columns.{last_put}
use Rattle.printing.proofs.put_field.Given as goal

abbrev pub invariant-loop-k : goal.invariant-loop-k
invariant-loop-k l = (l.rest ≡ l.n / 10 ^ l.k) × (l.out ≡ last_put l.n l.initial.out l.k)
