-- A buyer's bundle, lot by lot: `Held`, what a loop over the lots has found, with a law for each way through the loop.
use mathlib.Core.Path.{◌≡◌, sym, ap, ◌∙◌}
use mathlib.Core.List.{List}
use Prim.Native.Nat.{ℕ, ◌+◌, ◌^◌, ◌≤◌, ◌<◌}
use native.Mathlib.Nat.{zero-add, add-zero}
use native.Mathlib.Numerals.{add-one}
use native.Mathlib.Omega.{arith}
use lib.Dec.{eqb}
use lib.ListN.{length, take, get_or}
use lib.Seq.{slice, slice-cons, slice_empty}
use borrow.Author.Tests.{eq-eqb, ne_eqb}
use Rattle.theory.specs.Sums.{when}
use Rattle.numbers.proofs.Numbers.{pow_small}
use Rattle.owners.specs.Owners.{bundle_from, single}

-- of the first n lots of `os`, those below j that i owns are the bundle s
pub record Held (os : List ℕ) (n i j s : ℕ) : Type 0 where
  pub small : s < 2 ^ j
  pub rest : s + bundle_from single j i (slice j n os) ≡ bundle_from single 0 i (take n os)

module _ (os : List ℕ) (n i : ℕ) where
  pub held_first : Held os n i 0 0
  held_first = record { small = omega arith; rest = zero-add _ }

  module _ (j s : ℕ) (held : Held os n i j s) where
    pub held_small : j ≤ 4 → s ≤ 15
    held_small few = omega (arith, held.small, pow_small j few)

    module _ (h : j < n) (l : n ≤ length os) (o : ℕ) (same : o ≡ get_or os j 0) (s' : ℕ) where
      opened : s + (when (eqb o i) (2 ^ j) + bundle_from single (j + 1) i (slice (j + 1) n os))
          ≡ bundle_from single 0 i (take n os)
      opened =
          rw (same, add-one j)
          (ap (λ t. s + bundle_from single j i t) (sym (slice-cons j n os 0 h l)) ∙ held.rest)

      pub held_owned : o ≡ i → s' ≡ s + 2 ^ j → Held os n i (j + 1) s'
      held_owned own e =
          record {
            small = rw (add-one j) (omega (arith, held.small));
            rest = omega (arith, rw (eq-eqb o i own) at opened);
          }

      pub held_not : (o ≡ i → ⊥) → s' ≡ s → Held os n i (j + 1) s'
      held_not other e =
          record {
            small = rw (add-one j) (omega (arith, held.small));
            rest = omega (arith, rw (ne_eqb o i other) at opened);
          }

    pub held_all : j ≡ n → s ≡ bundle_from single 0 i (take n os)
    held_all e = rw (e, slice_empty, add-zero) at held.rest
