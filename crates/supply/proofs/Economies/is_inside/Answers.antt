-- `supply::Economies::is_inside` meets its contract.
use Rattle.std.proofs.Common.{◌≡◌, arith}
use Rattle.supply.proofs.Words.{inside_all, inside_but}
use Rattle.supply.proofs.Economies.is_inside.Goals as goal

pub returns-then-economy-eq0 : goal.returns-then-economy-eq0
returns-then-economy-eq0 c =
    let none : c.args.economy ≡ 0 = omega (arith, c.if-economy-eq0.true) in
    rw none (inside_all c.args.self.buyers c.args.k)

pub returns-else-economy-eq0 : goal.returns-else-economy-eq0
returns-else-economy-eq0 c =
    inside_but c.args.self.buyers c.args.economy c.args.k _ c.if-economy-eq0.false c.requires c.is_member.ensures
