use Rattle.std.proofs.Common.{◌≡◌, ◌&&◌, List, ℕ, ◌+◌, ◌-◌, ◌≤◌, ◌<◌, bit_and, refl, arith}
use Rattle.theory.specs.Tests.{every}
use Rattle.theory.proofs.Loops.{all_more, all_done}
use Rattle.numbers.specs.Numbers.{bit}
use Rattle.supply.specs.Supply.{at}
use Rattle.supply.proofs.Choosing.{every-start, every_more}
use Rattle.supply.proofs.Economies.everywhere.Invariants.{within}
use Rattle.supply.proofs.Economies.everywhere.Goals as goal

-- the word has the sets that are in the words before e, and those that go on
abbrev So_far : List ℕ → ℕ → ℕ → ℕ → Type 0
So_far words last word e =
    (n : ℕ) → n < 64 →
    (bit n word && every (last + 1 - e) e (within words n)) ≡ every (last + 1) 0 (within words n)

step : (words : List ℕ) (last word e : ℕ) → e ≤ last → So_far words last word e →
    So_far words last (bit_and word (at words e)) (e + 1)
step words last word e h so_far n l =
    all_more (last + 1) e (omega arith) (within words n) (bit n word) _ _ (so_far n l)
    (every_more n word (at words e) _ (within words n e) refl refl)

pub loop-e-init : goal.loop-e-init
loop-e-init c = λ n h. every-start n c.args.self.last _ h

pub loop-e-preserved : goal.loop-e-preserved
loop-e-preserved c = step _ _ _ _ c.loop-e-test.true c.loop-e.invariant

pub returns-2 : goal.returns-2
returns-2 c =
    let l = c.loop-e in
    λ n h. all_done (c.args.self.last + 1) (l.e + 1) (omega arith) (within c.args.words.now n) _ _
    (step c.args.words.now c.args.self.last l.word l.e c.loop-e-test.true l.invariant n h)
