-- `reading::read_sheet` meets its contract.
use Rattle.std.proofs.Common.{Ok, ◌∙◌}
use Rattle.sheet.specs.Answers.{refusal, refused_worths, read_as}
use Rattle.reading.proofs.Reading.{read_only}
use Rattle.reading.proofs.read_sheet.Goals as goal

pub returns-in-Ok : goal.returns-in-Ok
returns-in-Ok c = read_only c.args.sheet.now (read_as (Ok c.in-Ok.field-0)) c.in-Ok.ensures

pub returns-in-Err : goal.returns-in-Err
unfolding refusal
returns-in-Err c =
    c.from.ensures ∙ read_only c.args.sheet.now (refused_worths c.in-Err.refusal) c.in-Err.ensures
