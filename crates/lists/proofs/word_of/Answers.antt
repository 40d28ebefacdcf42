use Rattle.std.proofs.Common.{arith}
use Rattle.lists.specs.Words.{share_in}
use Rattle.lists.proofs.Words.{word_first, word_next, word_done}
use Rattle.lists.proofs.word_of.Goals as goal

pub loop-j-init : goal.loop-j-init
loop-j-init c = (
  omega arith,
  word_first (share_in c.args.shares.now) c.args.owners c.args.lots c.requires.0,
)

pub loop-j-preserved : goal.loop-j-preserved
loop-j-preserved c =
    let z = c.args in
    let l = c.loop-j in (
      c.with_place-word.ensures.most,
      word_next (share_in z.shares.now) z.owners z.lots l.j l.word _ l.invariant.1 (omega arith) (omega arith)
          _ _ c.from.ensures c.with_place-word.ensures.is,
    )

pub returns : goal.returns
returns c =
    let z = c.args in
    let l = c.loop-j in
    word_done (share_in z.shares.now) z.owners z.lots l.j l.word _ l.invariant.1 (omega arith)
