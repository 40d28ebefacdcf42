-- Totals and holders by a word, for m buyers, and the house where `low` is 0, and a table of sixteen numbers to a
-- bidder. Offers the total, that in an economy, that where the holders are a given set, and
-- the sum that limits the rounds.
use Rattle.std.specs.Prelude.{Bool, ◌||◌, List, ℕ, ◌+◌, ◌-◌, eqb, get_or}
use Rattle.theory.specs.Sums.{when, sum}
use Rattle.theory.specs.Markets.{total}
use Rattle.theory.specs.Coalitions.{holder}
use Rattle.owners.specs.Owners.{number}
use Rattle.owners.specs.Prices.{bidders, entry}
use Rattle.lists.specs.Words.{digit, word_market}

abbrev pub word_total : ℕ → ℕ → List ℕ → ℕ → ℕ
word_total low m t w = total (word_market low m) (entry t) w

-- what the last bundle, that of all, has in the table for the bidders
abbrev pub limit_by : ℕ → ℕ → ℕ → List ℕ → ℕ
limit_by low m all t = sum (bidders low m) low (λ i. entry t i (all - 1))

-- the word is one of the economy without buyer e, or of all for 0
abbrev pub word_in : ℕ → ℕ → Bool
word_in e w = eqb e 0 || eqb (digit e w) 0

abbrev pub word_total_in : ℕ → ℕ → List ℕ → ℕ → ℕ → ℕ
word_total_in low m t e w = when (word_in e w) (word_total low m t w)

-- the number of the set of buyers that own something
abbrev pub word_holders : ℕ → ℕ → ℕ
word_holders m w = number m 1 (holder (word_market 1 m) w)

abbrev pub word_total_by : ℕ → ℕ → List ℕ → ℕ → ℕ → ℕ
word_total_by low m t n w = when (eqb (word_holders m w) n) (word_total low m t w)

-- what buyer i pays for what it owns by a word: with it, the others have what they could have without i
abbrev pub word_payment : List ℕ → List ℕ → ℕ → ℕ → ℕ
word_payment greatest t w i = get_or greatest i 0 + entry t i (digit i w) - get_or greatest 0 0
