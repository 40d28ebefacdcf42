-- `writing::ask_size` meets its contract.
use Rattle.std.proofs.Common.{sym, ◌∙◌}
use Rattle.writing.proofs.Asking.{buyers_refused, lots_refused, size_passed}
use Rattle.writing.proofs.ask_size.Goals as goal

pub returns-then-not-is_between-clause-fault : goal.returns-then-not-is_between-clause-fault
returns-then-not-is_between-clause-fault c =
    sym (buyers_refused c.args.buyers c.args.lots (sym c.is_between.ensures ∙ c.if-not-is_between.true))

pub returns-then-not-is_between-2-clause-fault : goal.returns-then-not-is_between-2-clause-fault
returns-then-not-is_between-2-clause-fault c =
    sym (lots_refused c.args.buyers c.args.lots (sym c.is_between.ensures ∙ c.if-not-is_between.false)
    (sym c.is_between-2.ensures ∙ c.if-not-is_between-2.true))

pub returns-clause-fault : goal.returns-clause-fault
returns-clause-fault c =
    sym (size_passed c.args.buyers c.args.lots (sym c.is_between.ensures ∙ c.if-not-is_between.false)
    (sym c.is_between-2.ensures ∙ c.if-not-is_between-2.false))
