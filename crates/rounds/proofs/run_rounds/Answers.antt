use Rattle.std.proofs.Common.{ℕ, List, ◌-◌, ◌<◌, length, take, drop, arith, length-drop}
use lib.ListN.{length-take}
use Rattle.rounds.proofs.Rising.{step_small}
use Rattle.rounds.proofs.Going.{begun, goes_on, settles, runs_out}
use Rattle.rounds.proofs.Turning.{kept_small}
use Rattle.rounds.proofs.Selling.{valued_small, sold}
use Rattle.rounds.proofs.run_rounds.Goals as goal

-- the record has room for the next round's byte
rest_some : (o : List ℕ) (n : ℕ) → n < length o → 0 < length (take (length o - n) (drop n o))
rest_some o n h = simp (length-take, length-drop) (omega arith)

pub tables-kept-requires : goal.tables-kept-requires
tables-kept-requires c =
    let p = c.requires in
    let values = c.values-values in (
      p.small,
      valued_small c.args.buyers c.args.worths.now c.args.list.now values.result p.few p.small values.ensures,
      p.start,
    )

pub loop-n-init : goal.loop-n-init
loop-n-init c = (
  c.requires,
  record {
    values = c.values-values.result;
    valued = c.values-values.ensures;
    going = begun c.requires.low;
    kept = c.tables-kept.ensures;
  },
)

pub round-requires : goal.round-requires
round-requires c =
    let l = c.loop-n in
    let a = c.args in
    let (p, i) = l.invariant in
    let room : l.n < length l.log = omega (arith, i.going.same, p.room, c.loop-n-test.true) in (
      i.kept.prices,
      λ k. omega (arith, i.going.small k, p.rise),
      kept_small p.few
          (valued_small a.buyers a.worths.now a.list.now i.values p.few p.small i.valued)
          i.kept,
      rest_some l.log l.n room,
    )

pub returns-then-round : goal.returns-then-round
returns-then-round c =
    let (p, i) = c.loop-n.invariant in
    sold i.values p i.valued
    (settles i.going c.loop-n-test.true p.room (c.round.ensures i.values i.kept).0 c.if-round.true)

pub loop-n-preserved : goal.loop-n-preserved
loop-n-preserved c =
    let (p, i) = c.loop-n.invariant in
    let a = c.args in
    let (turn, next) = c.round.ensures i.values i.kept in (
      p,
      record {
        values = i.values;
        valued = i.valued;
        going = goes_on i.going c.loop-n-test.true p.room turn
            (step_small a.buyers a.bundles a.worths.now) c.if-round.false;
        kept = next;
      },
    )

pub returns : goal.returns
returns c =
    let (p, i) = c.loop-n.invariant in sold i.values p i.valued (runs_out i.going c.loop-n-test.false)
