-- `selling::try_demand` meets its contract.
use Rattle.std.proofs.Common.{refl, rules, sym, ◌∙◌}
use Rattle.selling.proofs.Demanding.{demand_refused, demand_nobody, demand_told}
use Rattle.selling.proofs.try_demand.Goals as goal

pub returns-in_err-sheet : goal.returns-in_err-sheet
returns-in_err-sheet c =
    demand_refused c.args.sheet.now c.in_err-sheet.field-0.0 c.in_err-sheet.ensures c.args.buyer c.args.prices.now _
    (search rules)

pub returns-then-not-is_between : goal.returns-then-not-is_between
returns-then-not-is_between c =
    demand_nobody c.args.sheet.now c.in_ok-sheet.sheet c.in_ok-sheet.ensures c.args.buyer c.args.prices.now
    (sym c.is_between.ensures ∙ c.if-not-is_between.true) _ refl

pub returns : goal.returns
returns c =
    demand_told c.args.sheet.now c.in_ok-sheet.sheet c.in_ok-sheet.ensures c.args.buyer c.args.prices.now
    (sym c.is_between.ensures ∙ c.if-not-is_between.false) c.bundles.result c.demand_set.result c.is_keen.result
    c.bundles.ensures.is c.demand_set.ensures c.is_keen.ensures
