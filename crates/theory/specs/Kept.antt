-- Rounds that keep the gains and the revenues of the one before. Offers `shared` and `around`, the members that count
-- in a round, and `Ranks`, what the numbers of sets have to do.
use Rattle.std.specs.Prelude.{◌≡◌, Bool, true, false, ◌&&◌, ℕ, ◌<◌}
use Rattle.theory.specs.Sums.{when, sum, Among}
use Rattle.theory.specs.Markets.{other_than}
use Rattle.theory.specs.Coalitions.{Roster}

module _ (R : Roster) where
  -- how many bidders pass a test
  abbrev pub count : (ℕ → Bool) → ℕ
  count t = sum R.many R.low (λ i. when (t i) 1)

  -- the members of the set n that the set x has too
  abbrev pub shared : ℕ → ℕ → ℕ
  shared x n = count (λ i. R.member n i && R.member x i)

  -- the members of the set x that are present
  abbrev pub around : (ℕ → Bool) → ℕ → ℕ
  around present x = count (λ i. present i && R.member x i)

  -- the empty set has a number, and a set without one of its members a lower one than with it
  pub record Ranks : Type 0 where
    pub none : (z : ℕ) × (z < R.sets) × ((i : ℕ) → Among R.many R.low i → R.member z i ≡ false)
    pub fewer : (x i : ℕ) → Among R.many R.low i → R.member x i ≡ true →
        (y : ℕ) × (y < x) × ((j : ℕ) → Among R.many R.low j → R.member y j ≡ (R.member x j && other_than i j))
