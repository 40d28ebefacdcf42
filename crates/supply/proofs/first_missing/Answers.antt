-- `supply::first_missing` meets its contract.
use Rattle.std.proofs.Common.{arith, sym}
use Rattle.std.proofs.Math.Facts.{Fits-lt-pow}
use Rattle.supply.proofs.Words.{lowest_missing, none_missing}
use Rattle.supply.proofs.first_missing.Goals as goal

pub returns-then-n-sets : goal.returns-then-n-sets
returns-then-n-sets c =
    let a = c.args in
    record {
      is = sym (lowest_missing a.word a.other a.sets (Fits-lt-pow c.ranges.word) (Fits-lt-pow c.ranges.other)
          c.requires c.if-n-sets.true);
      most = omega arith;
    }

pub returns : goal.returns
returns c =
    let a = c.args in
    record {
      is = sym (none_missing a.word a.other a.sets (Fits-lt-pow c.ranges.word) (Fits-lt-pow c.ranges.other) c.requires
          c.if-n-sets.false);
      most = omega arith;
    }
