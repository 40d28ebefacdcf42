-- A market: its bidders, and what each holds in an allocation. Worths (valuations) and prices are tables.
-- Offers `total`, `Efficient`, `Equilibrium`, `Fits`, the payments (`Pays`, `worth_pay`, `price_pay`, `Exact`) and a
-- sale's own prices, `asks`. An economy's allocations are a list, and that an allocation is one of them is said apart.
use Rattle.std.specs.Prelude.{◌≡◌, ◌≢◌, ◌⊎◌, Bool, true, false, not, List, ℕ, ◌+◌, ◌-◌, ◌≤◌, eqb}
use Rattle.theory.specs.Sums.{sum, Among, when}
use Rattle.theory.specs.Lists.{◌∈◌, most}

-- the bidders are `many` numbers from `low` on; a bundle is a number, 0 the empty one
pub record Market (A : Type 0) : Type 0 where
  pub many : ℕ
  pub low : ℕ
  pub holds : A → ℕ → ℕ

-- a number for each bidder and bundle
abbrev pub Table : Type 0
Table = ℕ → ℕ → ℕ

module _ {A : Type 0} (M : Market A) where
  abbrev pub Bidder : ℕ → Type 0
  Bidder i = Among M.many M.low i

  abbrev pub sum_of : (ℕ → ℕ) → ℕ
  sum_of b = sum M.many M.low b

  -- an allocation's total: where the table has prices, the seller's takings, and the greatest of them is the revenue
  abbrev pub total : Table → A → ℕ
  total t a = sum_of (λ i. t i (M.holds a i))

  abbrev pub Efficient : Table → List A → A → Type 0
  Efficient v al a = total v a ≡ most (total v) al

  -- payoffs are quasi-linear, worth less price: at the prices p none, from what is held in an allocation, is above b
  abbrev pub Covered : Table → Table → (ℕ → ℕ) → List A → Type 0
  Covered v p b al = (a : A) → a ∈ al → (i : ℕ) → Bidder i → v i (M.holds a i) ≤ b i + p i (M.holds a i)

  -- the allocation has the greatest takings, and each bidder its payoff
  pub record Equilibrium (v p : Table) (b : ℕ → ℕ) (al : List A) (a : A) : Type 0 where
    pub takes : total p a ≡ most (total p) al
    pub serves : (i : ℕ) → Bidder i → v i (M.holds a i) ≡ b i + p i (M.holds a i)

  -- the allocation has the greatest takings, and each bidder its payoff or nothing
  pub record Fits (v p : Table) (b : ℕ → ℕ) (al : List A) (a : A) : Type 0 where
    pub takes : total p a ≡ most (total p) al
    pub gives : (i : ℕ) → Bidder i → (M.holds a i ≡ 0) ⊎ (v i (M.holds a i) ≡ b i + p i (M.holds a i))

  -- n is what i pays for its part of x: with n, the others have in `al` what they could have in `al_i`, without i;
  -- by worths this is the VCG payment, by prices theorem 1's
  abbrev pub Pays : Table → ℕ → List A → List A → A → ℕ → Type 0
  Pays t i al al_i x n = n + most (total t) al ≡ most (total t) al_i + t i (M.holds x i)

  -- the same by worths, as a difference
  abbrev pub worth_pay : Table → ℕ → List A → List A → A → ℕ
  worth_pay v i al al_i x = most (total v) al_i + v i (M.holds x i) - most (total v) al

  -- the same by prices, as a price less a discount: what the revenue is above that without i
  abbrev pub discount : Table → List A → List A → ℕ
  discount p al al_i = most (total p) al - most (total p) al_i

  abbrev pub price_pay : Table → ℕ → List A → List A → A → ℕ
  price_pay p i al al_i x = p i (M.holds x i) - discount p al al_i

  -- nothing is cut off in the discount and the payment, and neither price nor payment is above the worth
  pub record Exact (v p : Table) (i : ℕ) (al al_i : List A) (x : A) : Type 0 where
    pub discounted : discount p al al_i + most (total p) al_i ≡ most (total p) al
    pub paid : price_pay p i al al_i x + discount p al al_i ≡ p i (M.holds x i)
    pub priced : p i (M.holds x i) ≤ v i (M.holds x i)
    pub cheap : price_pay p i al al_i x ≤ v i (M.holds x i)

  -- a table that gives no less to a larger bundle
  abbrev pub Monotone : (ℕ → ℕ → Type 0) → Table → Type 0
  Monotone within t = (i : ℕ) → Bidder i → (s u : ℕ) → within s u → t i s ≤ t i u

  -- each allocation of `al` has one of `al_i` in which every bidder but i holds no less
  abbrev pub Leaves : (ℕ → ℕ → Type 0) → ℕ → List A → List A → Type 0
  Leaves within i al al_i = (a : A) → a ∈ al →
      (c : A) × (c ∈ al_i) ×
      ((j : ℕ) → Bidder j → j ≢ i → within (M.holds a j) (M.holds c j))

  -- each allocation has one in which the bidders that pass keep no less and each other holds nothing, or all
  abbrev pub Drops : (ℕ → ℕ → Type 0) → ℕ → List A → Type 0
  Drops within top al = (a : A) → a ∈ al → (t : ℕ → Bool) →
      (c : A) × (c ∈ al) ×
      ((i : ℕ) → Bidder i → t i ≡ true → within (M.holds a i) (M.holds c i)) ×
      ((i : ℕ) → Bidder i → t i ≡ false → (M.holds c i ≡ 0) ⊎ (M.holds c i ≡ top))

-- the bidders but i
abbrev pub other_than : ℕ → ℕ → Bool
other_than i j = not (eqb j i)

-- payoffs of some bidders only, 0 for the others
abbrev pub only : (ℕ → Bool) → (ℕ → ℕ) → ℕ → ℕ
only present b i = when (present i) (b i)

-- the prices at which each bidder's payoff is π: a worth less the payoff, cut off at 0
abbrev pub asks : Table → (ℕ → ℕ) → Table
asks v π i s = v i s - π i

-- payoffs with 1 less for each member of a set
abbrev pub lower : (ℕ → Bool) → (ℕ → ℕ) → ℕ → ℕ
lower set π i = π i - when (set i) 1
