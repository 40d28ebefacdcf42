-- `lists::owners_of` meets its contract.
use Rattle.std.proofs.Common.{◌+◌, rules}
use Rattle.lists.specs.Words.{digit, owners_of}
use Rattle.theory.proofs.Arrays.{made_by}
use Rattle.lists.proofs.owners_of.Goals as goal

pub returns : goal.returns
unfolding owners_of
returns c = made_by _ (λ j. digit (7 + j) c.args.word) 4 _ (λ i y d h call. search rules) _ c.from_fn.ensures.items
