-- `lists::with_place` meets its contract.
use Rattle.std.proofs.Common.{refl, arith}
use Rattle.lists.proofs.Words.{place_added}
use Rattle.lists.proofs.with_place.Goals as goal

pub overflow_add-result : goal.overflow_add-result
overflow_add-result c =
    let (bundle, owner, small) = place_added c.args.place c.args.share c.args.o (omega arith) (omega arith)
    (omega arith) in
    rw (bundle, owner) (omega (arith, small))

pub overflow_add-result-2 : goal.overflow_add-result-2
overflow_add-result-2 c =
    let (bundle, owner, small) = place_added c.args.place c.args.share c.args.o (omega arith) (omega arith)
    (omega arith) in
    rw (bundle, owner) (omega (arith, small))

pub returns : goal.returns
returns c =
    let (bundle, owner, small) = place_added c.args.place c.args.share c.args.o (omega arith) (omega arith)
    (omega arith) in
    record { is = rw (bundle, owner) refl; most = rw (bundle, owner) (omega (arith, small)) }
