-- `trial::ask_trial` meets its contract.
use Rattle.std.proofs.Common.{rules, sym}
use Rattle.trial.proofs.Asking.{size_kept, top_refused, top_passed}
use Rattle.trial.proofs.ask_trial.Goals as goal

pub returns-in_err-size-clause-fault : goal.returns-in_err-size-clause-fault
returns-in_err-size-clause-fault c =
    let z = c.args in
    let e = size_kept z.buyers z.lots z.top c.in_err-size.field-0.0 c.in_err-size.ensures.fault in
    search rules

pub returns-then-top-gt9999-clause-fault : goal.returns-then-top-gt9999-clause-fault
returns-then-top-gt9999-clause-fault c =
    sym (top_refused c.args.buyers c.args.lots c.args.top c.in_ok-size.ensures.fault c.if-top-gt9999.true)

pub returns-clause-fault : goal.returns-clause-fault
returns-clause-fault c =
    sym (top_passed c.args.buyers c.args.lots c.args.top c.in_ok-size.ensures.fault c.if-top-gt9999.false)
