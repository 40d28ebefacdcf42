-- `totals::limit_of` meets its contract.
use Rattle.std.proofs.Common.{◌∙◌, rules, arith}
use Rattle.totals.proofs.Digits.{each_total}
use Rattle.totals.proofs.limit_of.Goals as goal

pub returns : goal.returns
returns c =
    let t = c.args.table.now in
    record {
      is = c.total_of.ensures.is
          ∙ each_total t.bidders.low t.bidders.buyers c.args.bundles t.numbers.now (search rules) (search rules)
          (omega arith);
      most = c.total_of.ensures.most;
    }
