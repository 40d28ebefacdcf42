-- `fields::read_field` meets its contract.
use Rattle.std.proofs.Common.{arith}
use Rattle.fields.proofs.Scan.{six_left}
use Rattle.fields.proofs.read_field.Goals as goal

pub returns-then-at-len : goal.returns-then-at-len
returns-then-at-len c =
    six_left c.args.sheet.now c.args.at c.scan_columns.result (omega arith) c.scan_columns.ensures
