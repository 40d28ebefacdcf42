-- `selling::sell` meets its contract.
use Rattle.std.proofs.Common.{refl}
use Rattle.selling.proofs.Selling.{rounds-ask, sold_settled}
use Rattle.selling.proofs.sell.Goals as goal

pub run_rounds-rounds-requires : goal.run_rounds-rounds-requires
run_rounds-rounds-requires c =
    rounds-ask c.requires.0 c.args.limit c.bundles-all.result c.args.log.now c.requires.2 c.requires.3
    c.bundles-all.ensures.is

pub returns : goal.returns
returns c =
    let sheet = c.args.sheet.now in
    sold_settled sheet.size.buyers sheet.size.lots sheet.worths c.args.list.now c.args.log.now _ _ c.args.limit
    c.bundles-all.result c.run_rounds-rounds.result c.requires.0 c.requires.1 c.bundles-all.ensures.is c.requires.2
    c.run_rounds-rounds.ensures c.close_sale-closing.result c.close_sale-closing.ensures _ refl
