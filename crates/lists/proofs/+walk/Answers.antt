use Rattle.std.proofs.Common.{◌≡◌, refl, List, [], ◌∷◌, ℕ, ◌+◌, ◌-◌, ◌^◌, ◌≤◌, length, take, ap, sym, ◌∙◌, arith}
use native.Mathlib.Nat.{pow-zero}
use lib.ListN.{length-take, length-drop}
use Rattle.theory.specs.Lists.{over}
use Rattle.theory.proofs.Over.{over_long, over_more, over_then}
use Rattle.lists.specs.Words.{share_in}
use Rattle.lists.proofs.Walks.{written, whole, whole_length, whole_end, written_length, written_all}
use Rattle.lists.proofs.Walks.{written_next, begun_next, written_room, next_room, next_count, whole-count}
use Rattle.lists.proofs.+walk.Goals as goal
use Rattle.lists.proofs.+walk.Goals.{After-with_owner-next}

-- what is written so far, and its length
module _ {t : ℕ} (c : After-with_owner-next t) where
  abbrev many : ℕ
  many = length c.args.order.now

  abbrev begun : List ℕ
  begun = take (c.args.lots - c.args.left) c.args.owners

  abbrev so_far : List ℕ
  so_far = written (share_in c.args.shares.now) c.args.order.now begun c.loop-owner.owner-index (c.args.left - 1)

  here : length so_far ≡ c.loop-owner.at
  here =
      written_length (share_in c.args.shares.now) c.args.order.now begun c.loop-owner.owner-index (c.args.left - 1)
      (omega arith)
      ∙ sym c.loop-owner.invariant.0

  fits : c.loop-owner.at ≤ length c.args.out.now
  fits =
      omega (
        arith,
        c.loop-owner.invariant.0,
        written_room many c.loop-owner.owner-index c.args.left (length c.args.out.now) c.if-left-eq0.false (omega arith)
            (omega arith),
      )

  long : length c.loop-owner.out ≡ length c.args.out.now
  long = ap length c.loop-owner.invariant.1 ∙ over_long so_far c.args.out.now (omega (arith, here, fits))

  fits_more : c.loop-owner.at + many ^ (c.args.left - 1) ≤ length c.args.out.now
  fits_more =
      omega (
        arith,
        c.loop-owner.invariant.0,
        next_room many c.loop-owner.owner-index c.args.left (length c.args.out.now) c.if-left-eq0.false (omega arith)
            (omega arith),
      )

pub returns-then-left-eq0 : goal.returns-then-left-eq0
returns-then-left-eq0 t c =
    let z = c.args in
    let e : length z.order.now ^ z.left ≡ 1 = ap (λ n. length z.order.now ^ n) c.if-left-eq0.true
    ∙ pow-zero (length z.order.now) in (
      sym e,
      over_more [] z.out.now c.word_of.result 0 refl (omega arith)
          ∙ ap (λ l. over l z.out.now)
          (ap (λ w. w ∷ []) c.word_of.ensures
          ∙ whole_end z.owners z.lots z.left (share_in z.shares.now) z.order.now c.if-left-eq0.true),
    )

pub loop-owner-init : goal.loop-owner-init
loop-owner-init t c = (omega arith, refl)

pub offset_bounds-out-at : goal.offset_bounds-out-at
offset_bounds-out-at t c =
    let a = (goal.at.offset_bounds-out-at t c).After-with_owner-next in omega (arith, long a, fits a)

pub slice_bounds-walk-count : goal.slice_bounds-walk-count
slice_bounds-walk-count t c =
    let a = (goal.at.slice_bounds-walk-count t c).After-with_owner-next in omega (arith, long a, fits a)

pub slice_bounds-walk-start : goal.slice_bounds-walk-start
slice_bounds-walk-start t c =
    let a = (goal.at.slice_bounds-walk-start t c).After-with_owner-next in omega (arith, long a, fits a)

pub walk-n-requires : goal.walk-n-requires
walk-n-requires t c =
    let a = (goal.at.walk-n-requires t c).After-with_owner-next in (
      omega arith,
      (
        c.requires.0,
        c.requires.1,
        c.with_owner-next.ensures.1,
        omega arith,
        omega arith,
        omega arith,
        simp (length-take, length-drop) (omega (arith, long a, fits_more a)),
      ),
    )

pub overflow_add-at : goal.overflow_add-at
overflow_add-at t c =
    let a = (goal.at.overflow_add-at t c).After-with_owner-next in
    omega (arith, long a, fits_more a, c.walk-n.ensures.0)

pub loop-owner-preserved : goal.loop-owner-preserved
loop-owner-preserved t c =
    let a = (goal.at.loop-owner-preserved t c).After-with_owner-next in
    let z = c.args in
    let l = c.loop-owner in
    let next = c.with_owner-next in
    let share = share_in z.shares.now in
    let pre = take (z.lots - (z.left - 1)) next.result in (
      omega (arith, l.invariant.0, c.walk-n.ensures.0, next_count (many a) l.owner-index z.left 0 c.if-left-eq0.false),
      over_then (so_far a) (whole share z.order.now pre (z.left - 1)) z.out.now l.out _ l.at (here a)
          (omega (arith, whole_length share z.order.now pre (z.left - 1), fits_more a)) l.invariant.1
          c.walk-n.ensures.1
          ∙ ap (λ l. over l z.out.now)
          (sym (written_next share z.order.now (begun a) pre l.owner-index (z.left - 1) (omega arith)
          (begun_next z.owners z.lots z.left next.result _ next.ensures.0 c.if-left-eq0.false
          (omega arith) (omega arith)))),
    )

pub returns : goal.returns
returns t c =
    let z = c.args in
    let l = c.loop-owner in
    let many = length z.order.now in (
      l.invariant.0 ∙ whole-count many l.owner-index z.left 0 c.if-left-eq0.false (omega arith),
      l.invariant.1
          ∙ ap (λ l. over l z.out.now)
          (written_all (share_in z.shares.now) z.order.now (take (z.lots - z.left) z.owners) l.owner-index z.left
          c.if-left-eq0.false (omega arith)),
    )
