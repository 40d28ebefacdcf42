use Rattle.std.proofs.Common.{◌≡◌, ◌+◌, ◌-◌, ◌*◌, ◌≤◌, get_or, ap, ◌∙◌, arith}
use lib.Dec.{leb}
use Rattle.raising.specs.Raising.{raised_row}
use Rattle.raising.proofs.Rising.{row_none, row_at, row_more}
use Rattle.raising.proofs.Counting.{one_if, one_most}
use Rattle.raising.proofs.Valuations.raise_row.Goals as goal

pub loop-s-init : goal.loop-s-init
loop-s-init c =
    let a = c.args in
    row_none a.self.now.worths.now a.i a.left c.requires.0 c.requires.1 _ c.requires.2

-- the price at bundle s is as it was
pub overflow_add-prices : goal.overflow_add-prices
overflow_add-prices c =
    let l = c.loop-s in
    let a = c.args in
    let k = 16 * (a.i - 1) + l.s in
    let same : get_or l.prices k 0 ≡ get_or a.prices.now k 0 =
    row_at a.self.now.worths.now a.i a.left c.requires.0 c.requires.1 a.prices.now l.s (omega arith) (omega arith)
    l.prices l.invariant in
    let one : c.from.result ≤ 1 = rw c.from.ensures (one_most _) in
    omega (arith, same, c.requires.3 k)

pub loop-s-preserved : goal.loop-s-preserved
loop-s-preserved c =
    let l = c.loop-s in
    let a = c.args in
    let worth = c.from-worth in
    row_more a.self.now.worths.now a.i a.left c.requires.0 c.requires.1 a.prices.now l.s (omega arith)
    (omega arith) l.prices l.invariant worth.result _ worth.ensures
    (ap (λ n. get_or l.prices (16 * (a.i - 1) + l.s) 0 + n) (c.from.ensures ∙ one_if (leb a.left worth.result)))

pub returns : goal.returns
returns c =
    let a = c.args in
    let all : c.loop-s.s ≡ a.self.now.bundles = omega arith in
    c.loop-s.invariant ∙ ap (λ s. raised_row s a.self.now.worths.now a.i a.left a.prices.now) all
