-- `fields::scan_columns` meets its contract: what is known after six columns gives the field.
use Rattle.std.proofs.Common.{◌∙◌, take, drop}
use Rattle.std.proofs.lemmas.Result.{err_from_is_err_and}
use Rattle.fields.proofs.Scan.{six_long}
use Rattle.fields.proofs.Columns.{field_broken, field_whole}
use Rattle.fields.proofs.scan_columns.Goals as goal

pub returns-in_err-read_columns : goal.returns-in_err-read_columns
returns-in_err-read_columns c =
    let p = err_from_is_err_and c.from_residual.result c.from_residual.ensures.1 in
    rw (p.1, p.2)
    (field_broken c.args.at (take 6 (drop c.args.at c.args.sheet.now)) (six_long c.args.sheet.now c.args.at c.requires)
    c.in_err-read_columns.field-0.0 c.in_err-read_columns.ensures.0)

pub returns : goal.returns
returns c =
    c.ok_or.ensures.value
    ∙ field_whole c.args.at (take 6 (drop c.args.at c.args.sheet.now)) (six_long c.args.sheet.now c.args.at c.requires)
    c.in_ok-read_columns.field-0 c.in_ok-read_columns.ensures.0
