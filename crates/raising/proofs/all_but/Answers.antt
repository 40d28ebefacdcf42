-- `raising::all_but` meets its contract.
use Rattle.std.proofs.Common.{◌-◌, arith, refl}
use lib.Pow.{pow_mono}
use Rattle.raising.proofs.Counting.{all_but_none, all_but_one}
use Rattle.raising.proofs.all_but.Goals as goal

pub returns-then-absent-eq0 : goal.returns-then-absent-eq0
returns-then-absent-eq0 c = all_but_none _ _ c.if-absent-eq0.true refl

pub overflow_sub-result : goal.overflow_sub-result
overflow_sub-result c = omega (arith, c.power.ensures.is, pow_mono {i = c.args.absent - 1} {j = 5} (omega arith))

pub returns : goal.returns
returns c = all_but_one _ c.power.result _ c.if-absent-eq0.false c.requires c.power.ensures.is refl
