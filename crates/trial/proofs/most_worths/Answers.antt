use Rattle.std.proofs.Common.{◌≡◌, List, ℕ, suc, ◌+◌, ◌-◌, ◌*◌, ◌/◌, ◌%◌, ◌^◌, ◌≤◌, ◌<◌, length, get_or, arith}
use Rattle.std.proofs.Common.{refl, sym, ap, ◌∙◌}
use lib.ListN.{take, drop}
use Rattle.theory.proofs.Loops.{filled_none, filled_more, filled_all}
use Rattle.numbers.proofs.Numbers.{size-some}
use Rattle.generator.specs.Xorwow.{drawn, after}
use Rattle.trial.specs.Worths.{drawn_worth, row_up_to, draw_for, most_worths}
use Rattle.trial.proofs.Rows.{row-length, row_small}
use Rattle.trial.proofs.Filling.{filled_row, filled_next}
use Rattle.trial.proofs.most_worths.Goals as goal
use Rattle.trial.proofs.most_worths.Goals.{After-draw-one}

-- one way through the loop
module _ (c : After-draw-one) where
  abbrev N : ℕ
  N = c.args.number

  abbrev n : ℕ
  n = c.args.n

  abbrev top : ℕ
  top = c.args.top

  abbrev size : ℕ
  size = c.bundles-size.result - 1

  abbrev k : ℕ
  k = c.loop-k.k

  abbrev t : List ℕ
  t = c.loop-k.t

  is : size ≡ 2 ^ n - 1
  is = omega (arith, c.bundles-size.ensures.is)

  some : 1 ≤ size
  some = omega (arith, is, size-some n (omega arith))

  low : k < 90
  low = omega arith

  row_is : take (k - (k - k % size)) (drop (k - k % size) t) ≡ row_up_to n top (draw_for N n (k / size)) (k % size)
  row_is = filled_row N n top size is some k t low c.loop-k.invariant.1

pub loop-k-init : goal.loop-k-init
loop-k-init c =
    let none : 100 * c.from.result ≡ 100 * c.args.number + 0 = omega (arith, c.from.ensures) in
    (c.after_draws-g.ensures ∙ ap after none, filled_none _ 90 _ refl)

pub nonzero_rem-c : goal.nonzero_rem-c
nonzero_rem-c c = omega (arith, c.bundles-size.ensures.is, size-some c.args.n (omega arith))

pub most_fewer-fewer-requires : goal.most_fewer-fewer-requires
most_fewer-fewer-requires c =
    let p = (goal.at.most_fewer-fewer-requires c).After-draw-one in
    let draws = draw_for (N p) (n p) (k p / size p) in (
      omega arith,
      omega (arith, ap length (row_is p), row-length (n p) (top p) draws (k p % size p)),
      λ j. omega (arith, ap (λ l. get_or l j 0) (row_is p), row_small (n p) (top p) draws (k p % size p) j),
    )

pub loop-k-preserved : goal.loop-k-preserved
loop-k-preserved c =
    let p = (goal.at.loop-k-preserved c).After-draw-one in
    let l = c.loop-k in
    let next : 100 * N p + (k p + 1) ≡ suc (100 * N p + k p) = omega arith in
    let f = c.most_fewer-fewer in
    let r = c.raised_by in (
      ap (λ d. d.next) c.draw-one.ensures ∙ ap (λ g. (drawn g).next) l.invariant.0 ∙ sym (ap after next),
      filled_more _ 90 _ _ _ (low p)
          (r.ensures ∙ ap (λ d. drawn_worth (top p) f.result d.value) c.draw-one.ensures
          ∙ filled_next (N p) (n p) (top p) (size p) (is p) (some p) (k p) (t p) (low p) l.invariant.1 l.g l.invariant.0
          f.result f.ensures.is)
          l.invariant.1,
    )

pub returns : goal.returns
unfolding most_worths
returns c = filled_all _ 90 _ _ (omega arith) c.loop-k.invariant.1
