-- `raising::Valuations::payoff` meets its contract.
use Rattle.std.proofs.Common.{◌+◌, ◌-◌, ◌*◌, refl, ◌∙◌, arith}
use Rattle.raising.proofs.Rising.{payoff-some}
use Rattle.raising.proofs.Valuations.payoff.Goals as goal

pub returns : goal.returns
returns c =
    let a = c.args in
    let v = a.self.now in
    let top = v.bundles - 1 in
    let less = c.from.ensures ∙ c.saturating_sub.ensures in
    record {
      is = less ∙ payoff-some top v.worths.now a.prices.now a.i _ _ (omega arith) refl refl;
      most = omega (arith, less, c.requires.4 (16 * (a.i - 1) + top));
    }
