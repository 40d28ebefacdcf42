-- `lists::word_of` meets its contract. The invariant: with the owners from place j on the word is the whole.
use Rattle.std.proofs.Common.{◌≡◌, ◌*◌, ◌^◌, ◌≤◌, take, drop}
use Rattle.lists.specs.Words.{word_of, share_in}
use Rattle.lists.proofs.Words.{word_from}
use Rattle.lists.proofs.word_of.Given as goal

abbrev pub invariant-loop-j : goal.invariant-loop-j
invariant-loop-j l =
    (l.word ≤ l.j * 16 ^ 11)
    × (word_from (share_in l.shares) l.word l.j (drop l.j (take l.lots l.owners))
    ≡ word_of (share_in l.shares) (take l.lots l.owners))
