-- `supply::Economies::lowest` meets its contract.
use Rattle.supply.proofs.Choosing.{words-lowest}
use Rattle.supply.proofs.Economies.lowest.Goals as goal

pub returns : goal.returns
returns c =
    record {
      is = words-lowest c.args.self.buyers c.args.self.last c.args.words.now c.args.payoffs.now _
          c.keen_set.result _ _ _
          c.args.self.few.0 c.sets_of.ensures.is
          c.keen_set.ensures c.subsets_of-keen.ensures
          c.everywhere-supplied.ensures
          c.first_missing.ensures.is;
      most = c.first_missing.ensures.most;
    }
