-- `totals::total_of` meets its contract. The invariant: what stands for the bidders so far and for those from this one
-- on makes the whole sum.
use Rattle.std.proofs.Common.{◌≡◌, ◌+◌, ◌-◌, ◌*◌, ◌≤◌}
use Rattle.theory.specs.Sums.{sum}
use Rattle.owners.specs.Prices.{entry}
use Rattle.lists.specs.Words.{digit}
use Rattle.totals.specs.Totals.{word_total}
use Rattle.totals.proofs.total_of.Given as goal

abbrev pub invariant-loop-i : goal.invariant-loop-i
invariant-loop-i l =
    let t = l.table in
    let z = t.bidders in
    (l.total + 65535 * z.low ≤ 65535 * l.i)
    × (l.total + sum (z.buyers + 1 - l.i) l.i (λ i. entry t.numbers.now i (digit i l.word))
    ≡ word_total z.low z.buyers t.numbers.now l.word)
