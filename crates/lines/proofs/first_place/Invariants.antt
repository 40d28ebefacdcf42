-- `lines::first_place` meets its contract. The invariant: the places from k on are left to be tested.
use Rattle.std.proofs.Common.{◌≡◌, Bool, ℕ, ◌-◌, ◌*◌, ◌/◌, ◌%◌, ◌^◌, ◌<◌}
use Rattle.theory.specs.Tests.{least}
use Rattle.lines.proofs.first_place.Given as goal

-- a test of places, counted over the lines of n lots
abbrev pub at_place : ℕ → (ℕ → ℕ → Bool) → ℕ → Bool
at_place n t j = t (j / 2 ^ n) (j % 2 ^ n)

abbrev pub invariant-loop-k : goal.invariant-loop-k
invariant-loop-k g l =
    let n = l.size.lots in
    let places = l.size.buyers * 2 ^ n in
    (t : ℕ → ℕ → Bool) →
    ((i c : ℕ) (r : Bool) → i < 6 → c < 16 → goal.F-post g l.test i c r → r ≡ t i c) →
    least (places - l.k) l.k (at_place n t) ≡ least places 0 (at_place n t)
