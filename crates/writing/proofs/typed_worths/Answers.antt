-- `writing::typed_worths` meets its contract.
use Rattle.std.proofs.Common.{◌≡◌, rules, suc, ◌+◌, arith, sym, ap, ◌∙◌}
use Rattle.theory.proofs.Arrays.{made_by}
use Rattle.theory.proofs.Lists.{tabulate_same, tabulate-shift}
use Rattle.writing.specs.Answers.{typed, first_typed}
use Rattle.writing.proofs.typed_worths.Goals as goal

pub returns : goal.returns
unfolding first_typed
returns c =
    let b = c.args.numbers.now in
    made_by _ (λ j. typed b (j + 2)) 91 _ (λ i y d h call. search rules) _ c.from_fn.ensures.items
    ∙ tabulate_same 91 0 (λ j. typed b (j + 2)) (λ j. typed b (suc (suc j))) (λ j _.
    let e : j + 2 ≡ suc (suc j) = omega arith in ap (typed b) e)
    ∙ sym (tabulate-shift 91 1 (typed b) ∙ tabulate-shift 91 0 (λ j. typed b (suc j)))
