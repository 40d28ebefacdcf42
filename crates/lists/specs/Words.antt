-- An allocation as one number, in digits of base sixteen: seven for the bundles of the bidders 0 to 6 (what nobody owns
-- is 0's), then one for the owner of each place. Offers `word_of`, `digit`, which reads a word, `lot_words`, those of
-- all allocations, and the market by words. A place's share of a bundle is a parameter.
use Rattle.std.specs.Prelude.{◌≡◌, List, [], ◌∷◌, ◌++◌, map, ℕ, ◌+◌, ◌*◌, ◌/◌, ◌%◌, ◌^◌, ◌≤◌, ◌<◌, length, get_or}
use Rattle.theory.specs.Lists.{◌∈◌, tabulate}
use Rattle.theory.specs.Markets.{Market}
use Rattle.owners.specs.Owners.{bundle_from, allocations, zero_first, single}
use Rattle.owners.specs.Prices.{bidders}
use Rattle.offers.specs.Offers.{Offer}
use Rattle.offers.specs.Claims.{Regular}

-- the number with these digits, the lowest first
abbrev pub pack : List ℕ → ℕ
pack [] = 0
pack (d ∷ l) = d + 16 * pack l

abbrev pub digit : ℕ → ℕ → ℕ
digit k w = w / 16 ^ k % 16

-- the owners of four places
unfoldable pub owners_of : ℕ → List ℕ
owners_of w = tabulate 4 0 (λ j. digit (7 + j) w)

module _ (share : ℕ → ℕ) where
  -- the bundles of the bidders 0 to 6, of the places from j on
  unfoldable pub bundles : ℕ → List ℕ → List ℕ
  bundles j a = tabulate 7 0 (λ i. bundle_from share j i a)

  abbrev pub word_of : List ℕ → ℕ
  word_of a = pack (bundles 0 a ++ a)

  abbrev pub words : List (List ℕ) → List ℕ
  words al = map word_of al

  -- the words of the lists that begin with the owners `pre`
  abbrev pub words_after : List ℕ → List (List ℕ) → List ℕ
  words_after pre al = map (λ a. word_of (pre ++ a)) al

-- the words of an offer's allocations
abbrev pub words_of : Offer → List ℕ
words_of O = words O.share O.lists

-- a share for each place, from a list
abbrev pub share_in : List ℕ → ℕ → ℕ
share_in l j = get_or l j 0

-- the words of n lots among m buyers
abbrev pub lot_words : ℕ → ℕ → List ℕ
lot_words m n = words single (allocations (zero_first m) n)

-- what m buyers hold by a word, and the house where `low` is 0
abbrev pub word_market : ℕ → ℕ → Market ℕ
word_market low m = record { many = bidders low m; low = low; holds = λ w i. digit i w }

-- an allocation whose owners and bundles are digits
pub record Packs (share : ℕ → ℕ) (a : List ℕ) : Type 0 where
  pub owned : (o : ℕ) → o ∈ a → o < 7
  pub small : (i : ℕ) → bundle_from share 0 i a < 16

-- an offer whose allocations are words
pub record Packed (O : Offer) : Type 0 where
  pub first : O.low ≤ 1
  pub few : O.buyers ≤ 6
  pub shares : (j : ℕ) → 1 ≤ O.share j
  pub packs : (a : List ℕ) → a ∈ O.lists → Packs O.share a
  pub short : (a : List ℕ) → a ∈ O.lists → length a ≤ 4

-- the words, the worths and the numbers that the code is lent are an offer's
pub record Lent (O : Offer) (list ws : List ℕ) (first m all : ℕ) : Type 0 where
  pub words : list ≡ words_of O
  pub worths : ws ≡ O.worths
  pub low : first ≡ O.low
  pub buyers : m ≡ O.buyers
  pub bundles : all ≡ O.bundles
  pub packed : Packed O
  pub regular : Regular O
