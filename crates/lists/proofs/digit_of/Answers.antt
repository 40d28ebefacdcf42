-- `lists::digit_of` meets its contract.
use Rattle.std.proofs.Common.{refl, arith}
use Rattle.lists.proofs.Words.{sixteens}
use Rattle.lists.proofs.digit_of.Goals as goal

pub returns : goal.returns
returns c = record { is = rw (sixteens c.args.k) refl; most = omega arith }
