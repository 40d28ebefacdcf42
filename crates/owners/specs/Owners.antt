-- Owner lists as the allocations of an auction. Each lot has an owner, a buyer's number or 0 for unsold. Offers the
-- list of all `allocations` and its order, what a buyer holds, the economies, the numbers of sets of buyers, and the
-- auction (`auction_of`). The owners' order is a parameter, and so is a lot's share of a bundle's number.
use Rattle.std.specs.Prelude.{◌≡◌, ◌⊎◌, Bool, true, not, ◌&&◌, List, [], ◌∷◌, ◌++◌, ℕ, zero, suc, ◌+◌, ◌-◌, ◌*◌, ◌^◌}
use Rattle.std.specs.Prelude.{eqb}
use Rattle.theory.specs.Sums.{when}
use Rattle.theory.specs.Lists.{keep, up_to}
use Rattle.theory.specs.Markets.{Market}
use Rattle.theory.specs.Auction.{Economy, whole, lacking, Auction}
pub use Rattle.numbers.specs.Numbers.{bit}

-- the lists with one owner more in front, and with each of some owners
abbrev pub with_owner : ℕ → List (List ℕ) → List (List ℕ)
with_owner o [] = []
with_owner o (a ∷ al) = (o ∷ a) ∷ with_owner o al

abbrev pub spread : List ℕ → List (List ℕ) → List (List ℕ)
spread [] al = []
spread (o ∷ os) al = with_owner o al ++ spread os al

-- rule 1.9: all allocations of n lots, from those of one lot fewer
abbrev pub allocations : List ℕ → ℕ → List (List ℕ)
allocations os zero = [] ∷ []
allocations os (suc n) = spread os (allocations os n)

-- rule 1.10: the first owners that are not alike decide
abbrev pub ComesBefore : (ℕ → ℕ → Type 0) → List ℕ → List ℕ → Type 0
ComesBefore earlier [] bs = ⊥
ComesBefore earlier (a ∷ l) [] = ⊥
ComesBefore earlier (a ∷ l) (b ∷ bs) = earlier a b ⊎ ((a ≡ b) × ComesBefore earlier l bs)

-- the owners that a lot of m buyers can have, 0 first
abbrev pub zero_first : ℕ → List ℕ
zero_first m = up_to (suc m) 0

-- rule 5.6: i's bundle, as the shares of the lots from j on that i owns
abbrev pub bundle_from : (ℕ → ℕ) → ℕ → ℕ → List ℕ → ℕ
bundle_from share j i [] = 0
bundle_from share j i (o ∷ a) = when (eqb o i) (share j) + bundle_from share (suc j) i a

-- rule 1.3: the share of a single lot in the number of a bundle; lots are counted from 0
abbrev pub single : ℕ → ℕ
single j = 2 ^ j

abbrev pub market : ℕ → (ℕ → ℕ) → Market (List ℕ)
market m share = record { many = m; low = 1; holds = λ a i. bundle_from share 0 i a }

-- i owns nothing
abbrev pub lacks : ℕ → List ℕ → Bool
lacks i [] = true
lacks i (o ∷ a) = not (eqb o i) && lacks i a

-- rule 4.4: the economies, that of all first
abbrev pub lacking_from : ℕ → ℕ → List (List ℕ) → List (Economy (List ℕ))
lacking_from zero i al = []
lacking_from (suc k) i al = lacking i (keep (lacks i) al) ∷ lacking_from k (suc i) al

abbrev pub economies : ℕ → List (List ℕ) → List (Economy (List ℕ))
economies m al = whole al ∷ lacking_from m 1 al

-- rule 4.9: whether the set of number n has buyer i
abbrev pub member : ℕ → ℕ → Bool
member n i = bit (i - 1) n

-- the number of the set of those of k from s on that pass a test, 1 for s, 2 for s + 1 and so on
unfoldable pub number : ℕ → ℕ → (ℕ → Bool) → ℕ
number zero s t = 0
number (suc k) s t = when (t s) 1 + 2 * number k (suc s) t

-- the auction among m buyers; a bundle is within none but itself, since what a buyer loses may stay unsold
abbrev pub auction_of : ℕ → List (List ℕ) → (ℕ → ℕ) → ℕ → Auction (List ℕ)
auction_of m al share top =
    record {
      market = market m share;
      economies = economies m al;
      member = member;
      sets = 2 ^ m;
      within = λ s u. s ≡ u;
      top = top;
    }
