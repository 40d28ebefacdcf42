-- `printed::put_settled` meets its contract.
use Rattle.std.proofs.Common.{refl, arith}
use Rattle.printed.proofs.Parts.{all_put, all_none}
use Rattle.printed.proofs.put_settled.Goals as goal

pub returns-then-out-end : goal.returns-then-out-end
returns-then-out-end c = all_none c.args.r.now _ c.if-out-end.true

pub returns : goal.returns
returns c =
    all_put c.args.r.now c.args.out.now c.put_line.new.out c.put_lots.new.out (omega (arith, c.if-out-end.false))
    c.put_line.ensures c.put_lots.ensures c.put_buyers.new.out _ refl c.if-out-end.false c.put_buyers.ensures
