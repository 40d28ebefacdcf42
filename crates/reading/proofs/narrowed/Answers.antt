-- `reading::narrowed` meets its contract.
use Rattle.std.proofs.Common.{◌≡◌, ◌∙◌, ap, List, ℕ, length, get_or, arith, rules}
use lib.Seq.{ext_get_or}
use Rattle.theory.specs.Lists.{tabulate}
use Rattle.theory.proofs.Arrays.{made_by}
use Rattle.theory.proofs.Lists.{tabulate-at, tabulate-length}
use Rattle.reading.proofs.narrowed.Goals as goal

copied : (n : ℕ) (l : List ℕ) → length l ≡ n → tabulate n 0 (λ k. get_or l k 0) ≡ l
copied n l e =
    let f = λ (k : ℕ). get_or l k 0 in
    let long = tabulate-length n 0 f in
    ext_get_or 0 (tabulate n 0 f) l (omega (arith, long))
    (λ j h. tabulate-at n 0 f j 0 (omega (arith, long)) ∙ ap f (omega arith))

pub returns : goal.returns
returns c =
    let l = c.args.numbers.now in
    made_by _ (λ k. get_or l k 0) 96 _ (λ i y d h call. search rules) c.from_fn.result c.from_fn.ensures.items
    ∙ copied 96 l c.requires.long
