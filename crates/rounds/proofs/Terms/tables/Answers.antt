-- `rounds::Terms::tables` meets its contract.
use Rattle.supply.proofs.Keeping.{keeps_start}
use Rattle.rounds.proofs.Terms.tables.Goals as goal

pub returns : goal.returns
returns c =
    let E = c.args.self.now.economies in
    let payoffs = c.payoffs-payoffs in
    let gains = c.gains-gains in
    let revenues = c.revenues-revenues in
    record {
      payoffs = payoffs.ensures.1;
      keeps =
          keeps_start E.buyers E.last c.args.values.now payoffs.result gains.result revenues.result
          payoffs.ensures.0 gains.ensures revenues.ensures;
      prices = c.requires.2;
    }
