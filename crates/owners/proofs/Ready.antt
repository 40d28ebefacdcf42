-- Owner lists that may leave lots unsold make sound economies (`sounds`), which a buyer can be left out of (`leaves`):
-- what a buyer loses stays unsold. Assumes that 0 is among the owners.
use mathlib.Core.Path.{◌≡◌, refl, sym, ◌∙◌}
use mathlib.Core.Logic.{◌≢◌, inl}
use mathlib.Core.Bool.{Bool, false}
use mathlib.Core.List.{List}
use Prim.Native.Nat.{ℕ}
use native.Mathlib.Omega.{arith}
use lib.ListN.{replicate}
use lib.Dec.{eqb}
use borrow.Author.Tests.{eqb-true, not-false, ne_eqb}
use Rattle.theory.specs.Sums.{when}
use Rattle.theory.specs.Lists.{◌∈◌, keep}
use Rattle.theory.specs.Markets.{Bidder, Leaves, Drops, other_than}
use Rattle.theory.specs.Auction.{Economy, whole, lacking, Sound}
use Rattle.theory.proofs.Tests.{fails}
use Rattle.theory.proofs.Lists.{keep_in, keep_from}
use Rattle.owners.specs.Owners.{allocations, bundle_from, lacks, market, economies}
use Rattle.owners.proofs.Owners.{given, bundle_lacks, bundle_given, given_in, given_lacks, without_in}
use Rattle.owners.proofs.Owners.{some_allocation}
use Rattle.owners.proofs.Economies.{economies_all}

module _ (m n : ℕ) (os : List ℕ) (unsold : 0 ∈ os) (share : ℕ → ℕ) (top : ℕ) where
  abbrev al : List (List ℕ)
  al = allocations os n

  closed_drops : (l : List (List ℕ)) → ((t : ℕ → Bool) (a : List ℕ) → a ∈ l → given t 0 a ∈ l) →
      Drops (market m share) (λ s u. s ≡ u) top l
  closed_drops l closed a h t =
      let left : (i : ℕ) → Bidder (market m share) i → bundle_from share 0 i (given t 0 a)
      ≡ when (t i) (bundle_from share 0 i a) =
      λ i r. bundle_given share t 0 0 i a (λ z. omega arith) in
      (given t 0 a, closed t a h, λ i r e. sym (rw e at (left i r)), λ i r e. inl (rw e at (left i r)))

  whole_sound : Sound (market m share) (λ s u. s ≡ u) top (whole al)
  whole_sound =
      record {
        one = (replicate n 0, some_allocation os 0 unsold n);
        drops = closed_drops al (λ t a h. given_in os n t unsold h);
        absent = λ a h i r p. fails refl p;
      }

  lacking_sound : (i : ℕ) → 0 ≢ i → Sound (market m share) (λ s u. s ≡ u) top (lacking i (keep (lacks i) al))
  lacking_sound i z =
      record {
        one = (
          given (λ _. false) 0 (replicate n 0),
          keep_in (lacks i) (given_in os n (λ _. false) unsold (some_allocation os 0 unsold n))
              (given_lacks (λ _. false) 0 i (replicate n 0) z (λ e. fails e refl)),
        );
        drops = closed_drops (keep (lacks i) al) (λ t c k.
            let (c_in, c_lacks) = keep_from (lacks i) al k in
            keep_in (lacks i) (given_in os n t unsold c_in) (given_lacks t 0 i c z (λ _. c_lacks)));
        absent =
            λ c k j r p. rw (eqb-true j i (not-false (eqb j i) p))
            (bundle_lacks share 0 i c (keep_from (lacks i) al k).1);
      }

  pub sounds : (e : Economy (List ℕ)) → e ∈ economies m al → Sound (market m share) (λ s u. s ≡ u) top e
  sounds =
      economies_all m al (Sound (market m share) (λ s u. s ≡ u) top) whole_sound
      (λ i r. lacking_sound i (λ z. omega arith))

  pub leaves : (i : ℕ) → Bidder (market m share) i → Leaves (market m share) (λ s u. s ≡ u) i al (keep (lacks i) al)
  leaves i r a h = (
    given (other_than i) 0 a,
    without_in os n i unsold (λ z. omega arith) h,
    λ j q d. sym (bundle_given share (other_than i) 0 0 j a (λ z. omega arith) ∙ rw (ne_eqb j i d)),
  )
