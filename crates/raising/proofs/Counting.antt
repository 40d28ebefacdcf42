-- Members counted: of two sets (`common_is`), and of a set in an economy (`common_present`). Offers what a payoff
-- (`Lowered`), a gain (`Gained`) and a revenue (`Raised`) are after a round.
use mathlib.Core.Path.{◌≡◌, refl, ap, ◌∙◌}
use mathlib.Core.Bool.{Bool, true, false, not, ◌&&◌}
use mathlib.Core.List.{List}
use Prim.Native.Nat.{ℕ, zero, suc, ◌+◌, ◌-◌, ◌/◌, ◌^◌, ◌≤◌, ◌<◌}
use native.Mathlib.Omega.{arith}
use native.Mathlib.Decide.{dec_lt}
use lib.Bits.{bit_and, and_le_r}
use lib.Dec.{eqb}
use lib.Count.{ones, ones_in, ones_step}
use Rattle.std.specs.Int.{from_bool}
use Rattle.theory.specs.Sums.{when, sum}
use Rattle.theory.specs.Kept.{shared, around}
use Rattle.theory.proofs.Sums.{sum_same, sum-shift, when_one}
use Rattle.theory.proofs.Loops.{Revised}
use Rattle.numbers.specs.Numbers.{bit}
use Rattle.numbers.proofs.Subsets.{bit_half, one_bit}
use Rattle.owners.specs.Owners.{member}
use Rattle.owners.specs.Quick.{present_in, roster}
use Rattle.owners.specs.Singles.{AtMost}
use Rattle.supply.specs.Supply.{at, NextPayoffs}
use Rattle.supply.proofs.Words.{bit_and_lem, alike, alike_same, tried}
use Rattle.raising.specs.Raising.{AllBut}

-- a test as a number
pub one_if : (b : Bool) → from_bool b ≡ when b 1
one_if true = refl
one_if false = refl

pub one_most : (b : Bool) → from_bool b ≤ 1
one_most true = omega arith
one_most false = omega arith

-- a number's ones are its bits
ones_sum : (m n : ℕ) → n < 2 ^ m → ones n ≡ sum m 1 (λ i. when (bit (i - 1) n) 1)
unfolding ones ones_in
ones_sum zero n h = let z : n ≡ 0 = omega arith in rw z
ones_sum (suc m) n h =
    let f : ℕ → ℕ = λ i. when (bit (i - 1) n) 1 in
    let rest : sum m 1 (λ i. f (suc i)) ≡ sum m 1 (λ i. when (bit (i - 1) (n / 2)) 1) =
    sum_same m 1 _ _ (λ i r.
    let e : suc i - 1 ≡ suc (i - 1) = omega arith in
    ap (λ b. when b 1) (ap (λ j. bit j n) e ∙ bit_half (i - 1) n)) in
    omega (arith, ones_step n, one_bit 0 n, sum-shift m 1 f, rest, ones_sum m (n / 2) (omega arith))

pub common_is : (x n r m : ℕ) → r ≡ ones (bit_and n x) → x < 2 ^ m → r ≡ shared (roster m) x n
common_is x n r m er h =
    er ∙ ones_sum m (bit_and n x) (omega (arith, and_le_r n x))
    ∙ sum_same m 1 _ _ (λ i _. ap (λ b. when b 1) (bit_and_lem (i - 1) n x))

-- who is present in an economy of six buyers, as a set
pub all_but_none : (e r : ℕ) → e ≡ 0 → r ≡ 63 → AllBut e r
all_but_none e r ee er i lo hi = rw (ee, er) (tried 1 6 (λ _ j. bit j 63) refl 0 (i - 1) (omega arith) (omega arith))

pub all_but_one : (e b r : ℕ) → (e ≡ 0 → ⊥) → e ≤ 6 → b ≡ 2 ^ (e - 1) → r ≡ 63 - b → AllBut e r
all_but_one zero b r some h eb er i lo hi = absurd (some refl)
all_but_one (suc d) b r some h eb er i lo hi =
    let other : ℕ → ℕ → Bool = λ d j. not (eqb (suc j) (suc d)) in
    let z : suc d - 1 ≡ d = omega arith in
    let s : suc (i - 1) ≡ i = omega arith in
    ap (bit (i - 1)) (er ∙ ap (λ b. 63 - b) eb ∙ ap (λ j. 63 - 2 ^ j) z)
    ∙ alike_same (bit (i - 1) (63 - 2 ^ d)) (other d (i - 1))
    (tried 6 6 (λ d j. alike (bit j (63 - 2 ^ d)) (other d j)) refl d (i - 1) (omega arith) (omega arith))
    ∙ ap (λ n. not (eqb n (suc d))) s

pub common_present : (x n r m e : ℕ) → m ≤ 6 → AllBut e n →
    r ≡ shared (roster m) x n → r ≡ around (roster m) (present_in e) x
common_present x n r m e few same er =
    er ∙ sum_same m 1 _ _ (λ i q. ap (λ b. when (b && member x i) 1) (same i (omega arith) (omega arith)))

-- after a round of the set x: what buyer i + 1 has left
module _ (ps : List ℕ) (x : ℕ) where
  abbrev pub Lowered : ℕ → ℕ → Type 0
  Lowered i v = v ≡ at ps i - when (member x (i + 1)) 1

  module _ (m k : ℕ) (r : List ℕ) (so_far : Revised Lowered 6 ps k r) where
    pub lowered_small : AtMost 9999 ps → AtMost 9999 r
    lowered_small small j =
        elim (dec_lt j k) [
          | yes l ↦ omega (arith, so_far.done j l, small j)
          | no l ↦ omega (arith, so_far.rest j (omega arith), small j)
        ]

    pub lowered_all : m ≤ k → NextPayoffs m ps x r
    lowered_all h i lo hi =
        let e : i - 1 + 1 ≡ i = omega arith in
        so_far.done (i - 1) (omega arith) ∙ ap (λ j. at ps (i - 1) - when (member x j) 1) e

-- the gain of set k
abbrev pub Gained : ℕ → List ℕ → ℕ → ℕ → ℕ → Type 0
Gained m gs x k v = v ≡ at gs k + shared (roster m) x k

-- the revenue of economy e
module _ (m : ℕ) (rs words : List ℕ) (x : ℕ) where
  abbrev pub Raised : ℕ → ℕ → Type 0
  Raised e v = v + when (not (bit x (at words e))) 1 ≡ at rs e + around (roster m) (present_in e) x

  pub raised : (e up less : ℕ) → up ≡ at rs e + around (roster m) (present_in e) x →
      less ≡ when (not (bit x (at words e))) 1 → 1 ≤ up → Raised e (up - less)
  raised e up less eu el some = omega (arith, when_one (not (bit x (at words e))))
