-- `lists::list_lots` meets its contract.
use Rattle.std.proofs.Common.{[], ◌∷◌, rules, arith}
use Rattle.theory.proofs.Lists.{zeros-at}
use Rattle.lists.proofs.Words.{singles_small}
use Rattle.lists.proofs.Walks.{take_small, owners_small, few_lists, walked}
use Rattle.lists.proofs.list_lots.Goals as goal

pub walk-requires : goal.walk-requires
walk-requires c = (
  search (take_small 6, owners_small),
  singles_small,
  λ k. omega (arith, zeros-at 4 k),
  omega arith,
  omega arith,
  omega arith,
  search (rules, few_lists),
)

pub returns : goal.returns
returns c =
    walked c.args.buyers c.args.lots c.requires.0 c.requires.1 c.args.out.now _ (0 ∷ 0 ∷ 0 ∷ 0 ∷ []) c.walk.result
    c.walk.ensures.0 c.walk.ensures.1
