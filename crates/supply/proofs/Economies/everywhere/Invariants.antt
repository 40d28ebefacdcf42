-- `supply::Economies::everywhere` meets its contract. The invariant: a set is in the word, and in those of the
-- economies from e on, exactly if it is in all.
use Rattle.std.proofs.Common.{◌≡◌, ◌&&◌, List, Bool, ℕ, ◌+◌, ◌-◌, ◌<◌}
use Rattle.theory.specs.Tests.{every}
use Rattle.numbers.specs.Numbers.{bit}
use Rattle.supply.specs.Supply.{at}
use Rattle.supply.proofs.Economies.everywhere.Given as goal

-- whether set n is in the word of economy e
abbrev pub within : List ℕ → ℕ → ℕ → Bool
within words n e = bit n (at words e)

abbrev pub invariant-loop-e : goal.invariant-loop-e
invariant-loop-e l =
    (n : ℕ) → n < 64 →
    (bit n l.word && every (l.fn.self.last + 1 - l.e) l.e (within l.words n))
    ≡ every (l.fn.self.last + 1) 0 (within l.words n)
