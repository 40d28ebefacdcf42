-- `lists::bundle_of` meets its contract. The invariant: the lots below this one that i owns are in the bundle.
use Rattle.lists.proofs.Bundles.{Held}
use Rattle.lists.proofs.bundle_of.Given as goal

abbrev pub invariant-loop-lot : goal.invariant-loop-lot
invariant-loop-lot l = Held l.owners l.lots l.i l.lot l.bundle
