-- At a sale's own prices the rounds need one number for each set of bidders, a greatest total of what only they hold.
-- Offers `coalition_value`, the record `Values` of such numbers, and `lowest_by`, the lowest undersupplied set by them,
-- which asks no more of an auction than its `Roster`. Differences are kept `shift` higher, so that none is negative
-- where the payoffs come to at most `shift`.
use Rattle.std.specs.Prelude.{◌≡◌, ◌⊎◌, Bool, false, not, ◌&&◌, ◌||◌, List, map, ℕ, ◌+◌, ◌-◌, ◌≤◌, ◌<◌, eqb, leb}
use Rattle.theory.specs.Sums.{when, sum}
use Rattle.theory.specs.Lists.{◌∈◌, most, up_to}
use Rattle.theory.specs.Tests.{◌⊃◌, every, some, least}
use Rattle.theory.specs.Markets.{Market, Table, Bidder, total, only}
use Rattle.theory.specs.Auction.{Economy, Auction, everyone}

module _ {A : Type 0} (M : Market A) where
  -- bidder i holds something
  abbrev pub holder : A → ℕ → Bool
  holder a i = not (eqb (M.holds a i) 0)

  -- nobody outside the set does
  abbrev pub HeldBy : (ℕ → Bool) → A → Type 0
  HeldBy set a = (i : ℕ) → Bidder M i → set i ≡ false → M.holds a i ≡ 0

  abbrev pub held_by : (ℕ → Bool) → A → Bool
  held_by set a = everyone M (λ i. set i || eqb (M.holds a i) 0)

  -- the coalitional value function: the greatest total of the allocations that a set of bidders holds
  abbrev pub coalition_value : Table → List A → (ℕ → Bool) → ℕ
  coalition_value v al set = most (λ a. when (held_by set a) (total M v a)) al

  -- an economy's allocations are those of all that nobody absent has a part in
  pub record Part (al : List A) (e : Economy A) : Type 0 where
    pub fewer : (a : A) → a ∈ e.lists → a ∈ al
    pub closed : (a : A) → a ∈ al → HeldBy e.present a → a ∈ e.lists

module _ {A : Type 0} (X : Auction A) where
  -- n is the number of the set of all that hold something
  abbrev pub Holders : A → ℕ → Type 0
  Holders a n = (i : ℕ) → Bidder X.market i → X.member n i ≡ holder X.market a i

  -- one value for each set's number: an allocation's total is at most its holders' value, and each value is 0 or at
  -- most the total of an allocation that the set holds. The greatest totals are such values, of what a set holds
  -- exactly, or of what it holds.
  pub record Values (v : Table) (al : List A) (value : ℕ → ℕ) : Type 0 where
    pub above : (a : A) → a ∈ al →
        (n : ℕ) × (n < X.sets) × Holders a n × (total X.market v a ≤ value n)
    pub reached : (n : ℕ) → n < X.sets →
        (value n ≡ 0) ⊎
        ((a : A) × (a ∈ al) × HeldBy X.market (X.member n) a × (value n ≤ total X.market v a))

-- all that the rounds by values ask of an auction: who bids, the sets of bidders by their numbers, and who is present
-- in each economy
pub record Roster : Type 0 where
  pub many : ℕ
  pub low : ℕ
  pub member : ℕ → ℕ → Bool
  pub sets : ℕ
  pub presents : List (ℕ → Bool)

abbrev pub roster_of : {A : Type 0} → Auction A → Roster
roster_of X =
    record {
      many = X.market.many;
      low = X.market.low;
      member = X.member;
      sets = X.sets;
      presents = map (λ e. e.present) X.economies;
    }

module _ (R : Roster) where
  -- the payoffs of a set
  abbrev pub payoff_of : (ℕ → ℕ) → ℕ → ℕ
  payoff_of π n = sum R.many R.low (only (R.member n) π)

  -- the set has none but bidders present
  abbrev pub inside : (ℕ → Bool) → ℕ → Bool
  inside present n = every R.many R.low (λ i. R.member n i ⊃ present i)

  -- the set k has all members of the set n that are present
  abbrev pub covers : (ℕ → Bool) → ℕ → ℕ → Bool
  covers present n k = every R.many R.low (λ i. (present i && R.member n i) ⊃ R.member k i)

  module _ (shift : ℕ) (value : ℕ → ℕ) (π : ℕ → ℕ) where
    -- what a set's value is above its payoffs
    abbrev pub gain : ℕ → ℕ
    gain n = shift + value n - payoff_of π n

    -- the greatest gain of a set in an economy
    abbrev pub revenue : (ℕ → Bool) → ℕ
    revenue present = most (λ n. when (inside present n) (gain n)) (up_to R.sets 0)

    -- some set in the economy that has the members present gains it
    abbrev pub supplied_by : ℕ → (ℕ → Bool) → Bool
    supplied_by n present =
        some (λ k. inside present k && (covers present n k && eqb (gain k) (revenue present))) (up_to R.sets 0)

    -- 1 more than the lowest number of a set of keen bidders that is not supplied so, 0 if there is none
    abbrev pub lowest_by : ℕ
    lowest_by =
        least R.sets 0 (λ n.
        every R.many R.low (λ i. R.member n i ⊃ leb 1 (π i))
        && some (λ present. not (supplied_by n present)) R.presents)
