use Rattle.std.proofs.Common.{◌≡◌, refl, ap, ◌∙◌, arith}
use Rattle.generator.specs.Xorwow.{start, after}
use Rattle.generator.proofs.after_draws.Goals as goal

pub loop-init : goal.loop-init
unfolding start
loop-init c = refl

pub returns : goal.returns
returns c = let e : c.loop.counter ≡ c.args.count = omega arith in c.loop.invariant ∙ ap after e
