use Rattle.std.proofs.Common.{◌≡◌, ◌+◌, refl, sym, ap, ◌∙◌, length, arith}
use Rattle.owners.specs.Singles.{AtMost}
use Rattle.supply.specs.Supply.{payoff_at}
use Rattle.raising.proofs.Rising.{raised_to, rows_small, rows_none, rows_long, rows_in, rows_out, rows_end}
use Rattle.raising.proofs.Valuations.raise.Goals as goal
use Rattle.raising.proofs.Valuations.raise.Goals.{Joined-is_member, then-is_member, else-is_member}

pub loop-i-init : goal.loop-i-init
loop-i-init c =
    let a = c.args in
    rows_none a.buyers a.self.now.bundles a.self.now.worths.now a.set (payoff_at a.payoffs.now) _ c.requires.1

pub raise_row-requires : goal.raise_row-requires
raise_row-requires c =
    let l = c.loop-i in
    let a = c.args in
    let v = a.self.now in
    let π = payoff_at a.payoffs.now in
    let long : length l.prices ≡ 96 =
    ap length l.invariant ∙ rows_long a.buyers v.bundles v.worths.now a.set π a.prices.now l.i in
    let small : AtMost 60001 l.prices =
    rw l.invariant (rows_small a.buyers v.bundles v.worths.now a.set π a.prices.now l.i 60000 c.requires.2) in
    (omega arith, omega arith, long, small)

-- the row of one buyer more is raised
step : (c : Joined-is_member) →
    c.if-is_member.prices
    ≡ raised_to c.args.buyers c.args.self.now.bundles c.args.self.now.worths.now c.args.set
    (payoff_at c.args.payoffs.now) c.args.prices.now (c.loop-i.i + 1)
step c =
    let l = c.loop-i in
    let a = c.args in
    let e = c.is_member.ensures in
    let π = payoff_at a.payoffs.now in
    elim c.if-is_member.branch [
      | then-is_member w ↦
          w.prices-is ∙ w.raise_row.ensures
          ∙ rows_in a.buyers a.self.now.bundles a.self.now.worths.now a.set π a.prices.now l.i
          (omega arith) (omega arith) c.requires.0 (sym e ∙ w.if-is_member.true) l.prices l.invariant _ refl
      | else-is_member w ↦
          w.prices-is ∙ l.invariant
          ∙ rows_out a.buyers a.self.now.bundles a.self.now.worths.now a.set π a.prices.now l.i
          (omega arith) (omega arith) c.requires.0 (sym e ∙ w.if-is_member.false)
    ]

pub loop-i-preserved : goal.loop-i-preserved
loop-i-preserved c = step (goal.at.loop-i-preserved c).Joined-is_member

pub returns-after-is_member : goal.returns-after-is_member
returns-after-is_member c =
    let a = c.args in
    step (goal.at.returns-after-is_member c).Joined-is_member
    ∙ rows_end a.buyers a.self.now.bundles a.self.now.worths.now a.set (payoff_at a.payoffs.now) a.prices.now
    (c.loop-i.i + 1) (omega arith)

pub returns : goal.returns
returns c =
    let a = c.args in
    let v = a.self.now in
    c.loop-i.invariant
    ∙ rows_end a.buyers v.bundles v.worths.now a.set (payoff_at a.payoffs.now) a.prices.now c.loop-i.i (omega arith)
