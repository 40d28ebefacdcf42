-- Loops over the words of allocations: the greatest value (`most-words`) and the first that passes (`first-words`,
-- `first_owners`), by what they are of the allocations.
use mathlib.Core.Path.{◌≡◌, sym, ap, ◌∙◌}
use mathlib.Core.Bool.{Bool}
use mathlib.Core.List.{List, []}
use Prim.Native.Nat.{ℕ, ◌≤◌}
use native.Mathlib.Omega.{arith}
use lib.ListN.{length}
use Rattle.theory.specs.Lists.{◌∈◌, most, first}
use Rattle.theory.proofs.Lists.{most_same, most-map, first_same, first-map, first_such}
use Rattle.offers.specs.Places.{four}
use Rattle.lists.specs.Words.{Packs, owners_of, word_of, words}
use Rattle.lists.proofs.Words.{none_packs, word_none, word_owners}

-- over the words of allocations
module _ (share : ℕ → ℕ) (al : List (List ℕ)) where
  pub most-words : (f : ℕ → ℕ) (g : List ℕ → ℕ) → ((a : List ℕ) → a ∈ al → f (word_of share a) ≡ g a) →
      most f (words share al) ≡ most g al
  most-words f g same = most-map (word_of share) f al ∙ most_same _ g al same

  module _ (t : ℕ → Bool) (u : List ℕ → Bool) (same : (a : List ℕ) → a ∈ al → t (word_of share a) ≡ u a) where
    pub first-words : first t 0 (words share al) ≡ word_of share (first u [] al)
    first-words =
        ap (λ d. first t d (words share al)) (sym (word_none share)) ∙ first-map (word_of share) t [] al
        ∙ ap (word_of share) (first_same _ u [] al same)

    pub first_owners : ((a : List ℕ) → a ∈ al → Packs share a × (length a ≤ 4)) →
        owners_of (first t 0 (words share al)) ≡ four (first u [] al)
    first_owners h =
        ap owners_of first-words
        ∙ first_such (λ a. owners_of (word_of share a) ≡ four a) u [] al
        (word_owners share [] (none_packs share) (omega arith)) (λ a q. word_owners share a (h a q).0 (h a q).1)
