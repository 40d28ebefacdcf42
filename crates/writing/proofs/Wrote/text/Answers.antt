-- `writing::Wrote::text` meets its contract.
use Rattle.std.proofs.Common.{[], ◌∷◌, ap, ◌∙◌}
use Rattle.theory.specs.Lists.{over}
use Rattle.fields.specs.Fields.{line_of}
use Rattle.writing.specs.Answers.{text_in}
use Rattle.writing.proofs.Texts.{sheet_shown, refusal_shown}
use Rattle.writing.proofs.Wrote.text.Goals as goal

pub returns-then-self-eq0 : goal.returns-then-self-eq0
returns-then-self-eq0 c = sheet_shown c.args.self c.args.bytes c.if-self-eq0.true

pub returns : goal.returns
returns c =
    let w = c.args.self in
    ap (λ l. text_in l 13)
    (c.put_line.ensures ∙ ap (λ k. over (line_of (k ∷ w.place ∷ [])) c.args.bytes) c.from.ensures)
    ∙ refusal_shown w c.args.bytes c.if-self-eq0.false
