-- `printed::put_refusal` meets its contract.
use Rattle.std.proofs.Common.{[], ◌∷◌, sym, arith}
use Rattle.fields.specs.Fields.{line_of}
use Rattle.fields.proofs.Lines.{line-length}
use Rattle.printed.proofs.Parts.{puts_none, puts_whole}
use Rattle.printed.proofs.put_refusal.Goals as goal

pub returns-then-out-lt13 : goal.returns-then-out-lt13
returns-then-out-lt13 c =
    let vs = c.args.fault.number ∷ c.args.fault.place ∷ [] in
    puts_none (line_of vs) c.args.out.now (omega (arith, line-length vs, c.if-out-lt13.true))

pub returns : goal.returns
returns c =
    let vs = c.args.fault.number ∷ c.args.fault.place ∷ [] in
    puts_whole (line_of vs) c.args.out.now _ 13 (omega (arith, line-length vs, c.if-out-lt13.false))
    (sym (line-length vs)) c.put_line.ensures
