-- `selling::try_sell` meets its contract.
use Rattle.std.proofs.Common.{◌≡◌, ◌^◌, ap, refl, rules, ◌∙◌, arith}
use Rattle.sale.specs.declared.Sale.{Sale}
use Rattle.sale.specs.Answers.{settled_sale}
use Rattle.totals.specs.Totals.{limit_by}
use Rattle.selling.proofs.Selling.{sale_refused, asked_sheet, limit_is, record_short, sale_settled}
use Rattle.selling.proofs.try_sell.Goals as goal
use Rattle.selling.proofs.try_sell.Goals.{After-limit_of-limit}

pub returns-in_err-sheet-clause-says : goal.returns-in_err-sheet-clause-says
returns-in_err-sheet-clause-says c =
    sale_refused c.args.sheet.now c.in_err-sheet.field-0.0 c.in_err-sheet.ensures c.args.log.now _ (search rules)

-- question 9's sum is known
sum_is : (c : After-limit_of-limit) →
    let w = c.in_ok-sheet.sheet in c.limit_of-limit.result ≡ limit_by 1 w.size.buyers (2 ^ w.size.lots) w.worths
sum_is c =
    let w = c.in_ok-sheet.sheet in
    c.limit_of-limit.ensures.is ∙ ap (λ all. limit_by 1 w.size.buyers all w.worths) c.bundles.ensures.is

pub returns-then-log-limit-clause-says : goal.returns-then-log-limit-clause-says
returns-then-log-limit-clause-says c =
    record_short c.args.sheet.now c.in_ok-sheet.sheet c.in_ok-sheet.ensures c.limit_of-limit.result
    (sum_is (goal.at.returns-then-log-limit-clause-says c).After-limit_of-limit) c.args.log.now (omega arith) _ refl

pub sell-requires : goal.sell-requires
sell-requires c =
    let w = c.in_ok-sheet in (
      asked_sheet c.args.sheet.now w.sheet w.ensures,
      c.listed-list.ensures,
      limit_is c.args.sheet.now w.sheet w.ensures c.limit_of-limit.result
          (sum_is (goal.at.sell-requires c).After-limit_of-limit),
      omega arith,
    )

pub returns-clause-says : goal.returns-clause-says
returns-clause-says c =
    sale_settled c.args.sheet.now c.in_ok-sheet.sheet c.in_ok-sheet.ensures c.limit_of-limit.result
    (sum_is (goal.at.returns-clause-says c).After-limit_of-limit) c.args.log.now (omega arith) c.sell.result _ c.sell.ensures

pub returns-clause-settled : goal.returns-clause-settled
unfolding settled_sale
returns-clause-settled c = ap (λ (r : Sale). r.number) c.sell.ensures.0
