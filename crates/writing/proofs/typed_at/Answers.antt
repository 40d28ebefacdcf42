-- `writing::typed_at` meets its contract.
use Rattle.std.proofs.Common.{ap, ◌∙◌}
use Rattle.fields.specs.declared.FieldRead.{FieldRead}
use Rattle.writing.specs.Answers.{or_too_large}
use Rattle.writing.proofs.Texts.{typed_or}
use Rattle.writing.proofs.typed_at.Goals as goal

pub returns : goal.returns
returns c =
    c.unwrap_or.ensures ∙ typed_or c.read_field.result.field
    ∙ ap (λ (r : FieldRead). or_too_large r.field) c.read_field.ensures
