-- `reading::ask_head` meets its contract.
use Rattle.std.proofs.Common.{sym, ap, ◌∙◌}
use Rattle.std.proofs.lemmas.Result.{err_from_is_err_and}
use Rattle.sheet.specs.Refusals.{fault_of}
use Rattle.reading.proofs.Asking.{short_sheet, bad_head, bad_buyers, bad_lots, bad_length, head_passes}
use Rattle.reading.proofs.ask_head.Goals as goal

pub returns-then-len-lt13 : goal.returns-then-len-lt13
returns-then-len-lt13 c = short_sheet c.args.sheet.now c.if-len-lt13.true

pub returns-in_err-head : goal.returns-in_err-head
returns-in_err-head c =
    let p = err_from_is_err_and c.from_residual.result c.from_residual.ensures.1 in
    rw (p.1, p.2)
    (bad_head c.args.sheet.now c.if-len-lt13.false c.in_err-head.ensures.1
    ∙ ap fault_of (sym c.in_err-head.ensures.0))

pub returns-then-not-is_between : goal.returns-then-not-is_between
returns-then-not-is_between c =
    bad_buyers c.args.sheet.now c.if-len-lt13.false c.in_ok-head.head c.in_ok-head.ensures
    (sym c.is_between.ensures ∙ c.if-not-is_between.true)

pub returns-then-not-is_between-2 : goal.returns-then-not-is_between-2
returns-then-not-is_between-2 c =
    bad_lots c.args.sheet.now c.if-len-lt13.false c.in_ok-head.head c.in_ok-head.ensures
    (sym c.is_between.ensures ∙ c.if-not-is_between.false)
    (sym c.is_between-2.ensures ∙ c.if-not-is_between-2.true)

pub returns-then-len-head : goal.returns-then-len-head
returns-then-len-head c =
    bad_length c.args.sheet.now c.if-len-lt13.false c.in_ok-head.head c.in_ok-head.ensures
    (sym c.is_between.ensures ∙ c.if-not-is_between.false)
    (sym c.is_between-2.ensures ∙ c.if-not-is_between-2.false) c.line_length.result c.line_length.ensures.is
    c.if-len-head.true

pub returns : goal.returns
returns c =
    record {
      buyers = c.in_ok-head.ensures.buyers;
      lots = c.in_ok-head.ensures.lots;
      rest =
          head_passes c.args.sheet.now c.if-len-lt13.false c.in_ok-head.head c.in_ok-head.ensures
          (sym c.is_between.ensures ∙ c.if-not-is_between.false)
          (sym c.is_between-2.ensures ∙ c.if-not-is_between-2.false) c.line_length.result c.line_length.ensures.is
          c.if-len-head.false;
    }
