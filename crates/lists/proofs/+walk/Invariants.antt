-- `lists::walk` meets its contract. The invariant: the words of the lists with one of the first owners for the next
-- lot are written.
use Rattle.std.proofs.Common.{◌≡◌, ◌-◌, ◌*◌, ◌^◌, length, take}
use Rattle.theory.specs.Lists.{over}
use Rattle.lists.specs.Words.{share_in}
use Rattle.lists.proofs.Walks.{written}
use Rattle.lists.proofs.+walk.Given as goal

abbrev pub decreases-walk : goal.decreases-walk
decreases-walk l = l.left

abbrev pub invariant-loop-owner : goal.invariant-loop-owner
invariant-loop-owner l =
    (l.at ≡ l.owner-index * length l.order ^ (l.left - 1))
    × (l.out
    ≡ over (written (share_in l.shares) l.order (take (l.lots - l.left) l.owners) l.owner-index (l.left - 1))
    l.initial.out)
