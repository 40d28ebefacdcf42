-- `trial::most_fewer` meets its contract. The invariant: the greatest worth so far and those without the lots from j on
-- give the greatest of all.
use Rattle.std.proofs.Common.{◌-◌, ◌≡◌, ◌≤◌, max}
use Rattle.theory.specs.Lists.{most, up_to}
use Rattle.trial.specs.Worths.{row_worth, worth_without, most_fewer}
use Rattle.trial.proofs.most_fewer.Given as goal

abbrev pub invariant-loop-j : goal.invariant-loop-j
invariant-loop-j l =
    let v = row_worth l.row in
    (l.most ≤ 9999)
    × (max l.most (most (worth_without v l.s) (up_to (l.n - l.j) l.j)) ≡ most_fewer l.n v l.s)
