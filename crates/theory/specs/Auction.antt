-- The auction: its tests at any prices (`fits`, `supplied`, `undersupplied`, `lowest`), the closing and the direct way;
-- `Auction`, with what its theorems ask for (`Ready`, `Proper`, `Marginal`, `Settlement`); and the sale by payoffs
-- (`start`, `round`, `rounds`, `last`).
use Rattle.std.specs.Prelude.{◌≡◌, ◌↔◌, Bool, true, false, not, ◌&&◌, ◌||◌, List, ℕ, ◌+◌, ◌≤◌, ◌<◌, eqb, leb}
use Rattle.theory.specs.Sums.{when}
use Rattle.theory.specs.Lists.{◌∈◌, most, first}
use Rattle.theory.specs.Tests.{◌⊃◌, every, some, least}
use Rattle.theory.specs.Markets.{Market, Table, Bidder, total, Covered, Monotone, Leaves, Drops, asks, lower}
use Rattle.theory.specs.Markets.{other_than, sum_of}
use Rattle.theory.specs.Rounds.{choices, after}

-- allocations among some of the bidders
pub record Economy (A : Type 0) : Type 0 where
  pub lists : List A
  pub present : ℕ → Bool

-- the economy of all, and a marginal one, without a bidder
abbrev pub whole : {A : Type 0} → List A → Economy A
whole al = record { lists = al; present = λ _. true }

abbrev pub lacking : {A : Type 0} → ℕ → List A → Economy A
lacking i al = record { lists = al; present = other_than i }

-- prices, with each bidder's answers: whether it demands a bundle (the demand correspondence), and whether it is keen,
-- that is, its payoff is positive (B⁺)
pub record Quote : Type 0 where
  pub prices : Table
  pub wants : ℕ → ℕ → Bool
  pub keen : ℕ → Bool

module _ {A : Type 0} (M : Market A) where
  abbrev pub everyone : (ℕ → Bool) → Bool
  everyone t = every M.many M.low t

  -- in L*: of greatest takings, and each bidder holds what it demands or nothing
  abbrev pub fits : Quote → List A → A → Bool
  fits q al a =
      eqb (total M q.prices a) (most (total M q.prices) al)
      && everyone (λ i. eqb (M.holds a i) 0 || q.wants i (M.holds a i))

  -- each member of the set holds what it demands
  abbrev pub serves : Quote → (ℕ → Bool) → A → Bool
  serves q set a = everyone (λ i. set i ⊃ q.wants i (M.holds a i))

  abbrev pub closes : Quote → (ℕ → Bool) → List A → A → Bool
  closes q set al a = fits q al a && serves q set a

  -- some fitting allocation serves the members present
  abbrev pub supplied : Quote → (ℕ → Bool) → Economy A → Bool
  supplied q set e = some (closes q (λ i. e.present i && set i) e.lists) e.lists

  -- a set of keen bidders that some economy does not supply
  abbrev pub undersupplied : Quote → List (Economy A) → (ℕ → Bool) → Bool
  undersupplied q es set = everyone (λ i. set i ⊃ q.keen i) && some (λ e. not (supplied q set e)) es

  -- 1 more than the lowest of `sets` numbers whose set is undersupplied, 0 if none is
  abbrev pub lowest : (ℕ → ℕ → Bool) → ℕ → List (Economy A) → Quote → ℕ
  lowest member sets es q = least sets 0 (λ n. undersupplied q es (member n))

  -- the closing: the first allocation that fits and serves every keen bidder, d if none does
  abbrev pub closing : Quote → List A → A → A
  closing q al d = first (closes q q.keen al) d al

  -- the direct way (VCG): the first allocation of greatest total, d in an empty list
  abbrev pub direct : Table → List A → A → A
  direct v al d = first (λ a. eqb (total M v a) (most (total M v) al)) d al

  -- each set of bidders has a number below `sets`
  abbrev pub SetsNumbered : (ℕ → ℕ → Bool) → ℕ → Type 0
  SetsNumbered member sets = (t : ℕ → Bool) → (n : ℕ) × (n < sets) × ((i : ℕ) → Bidder M i → member n i ≡ t i)

  -- a proper subset
  pub record ProperSubset (part set : ℕ → Bool) : Type 0 where
    pub inside : (i : ℕ) → Bidder M i → part i ≡ true → set i ≡ true
    pub short : (i : ℕ) × Bidder M i × (set i ≡ true) × (part i ≡ false)

  -- each has one that is lower than all numbers of sets of which it is a proper subset
  abbrev pub Ranked : (ℕ → ℕ → Bool) → ℕ → Type 0
  Ranked member sets = (t : ℕ → Bool) →
      (n : ℕ) × (n < sets) ×
      ((i : ℕ) → Bidder M i → member n i ≡ t i) ×
      ((k : ℕ) → ProperSubset t (member k) → n < k)

  -- a minimally undersupplied set: no proper subset of it is undersupplied. Where there is universal overdemand, as in
  -- every round of a sale, this is definition 11
  pub record Minimal (q : Quote) (es : List (Economy A)) (set : ℕ → Bool) : Type 0 where
    pub undersupply : undersupplied q es set ≡ true
    pub least : (part : ℕ → Bool) → ProperSubset part set → undersupplied q es part ≡ false

  -- the quote's answers are those of bidders with worths v and payoffs b, for what is held in some allocations
  pub record Truthful (v : Table) (b : ℕ → ℕ) (al : List A) (q : Quote) : Type 0 where
    pub covered : Covered M v q.prices b al
    pub wanted : (a : A) → a ∈ al → (i : ℕ) → Bidder M i →
        (q.wants i (M.holds a i) ≡ true) ↔ (v i (M.holds a i) ≡ b i + q.prices i (M.holds a i))
    pub eager : (i : ℕ) → Bidder M i → (q.keen i ≡ true) ↔ (1 ≤ b i)
    pub free : (i : ℕ) → Bidder M i → (v i 0 ≡ 0) × (q.prices i 0 ≡ 0)

  -- two quotes that agree on what is held in some allocations
  pub record Alike (al : List A) (q q' : Quote) : Type 0 where
    pub prices : (a : A) → a ∈ al → (i : ℕ) → Bidder M i →
        q.prices i (M.holds a i) ≡ q'.prices i (M.holds a i)
    pub wants : (a : A) → a ∈ al → (i : ℕ) → Bidder M i →
        q.wants i (M.holds a i) ≡ q'.wants i (M.holds a i)

  -- who is not present holds nothing
  abbrev pub Absent : Economy A → Type 0
  Absent e = (a : A) → a ∈ e.lists → (i : ℕ) → Bidder M i → e.present i ≡ false → M.holds a i ≡ 0

  -- an economy with an allocation, in which bidders can be dropped, and those not present hold nothing
  pub record Sound (within : ℕ → ℕ → Type 0) (top : ℕ) (e : Economy A) : Type 0 where
    pub one : (a : A) × (a ∈ e.lists)
    pub drops : Drops M within top e.lists
    pub absent : Absent e

-- at the payoffs π, a sale's own prices
abbrev pub own : Table → (ℕ → ℕ) → Quote
own v π =
    record {
      prices = asks v π;
      wants = λ i s. leb (π i) (v i s);
      keen = λ i. leb 1 (π i);
    }

-- an auction: its market, its economies, the sets of bidders by their numbers, when a bundle is no larger than another,
-- and the bundle of all
pub record Auction (A : Type 0) : Type 1 where
  pub market : Market A
  pub economies : List (Economy A)
  pub member : ℕ → ℕ → Bool
  pub sets : ℕ
  pub within : ℕ → ℕ → Type 0
  pub top : ℕ

module _ {A : Type 0} (X : Auction A) where
  -- what a sale asks of the auction, and of the worths
  pub record Ready : Type 0 where
    pub sound : (e : Economy A) → e ∈ X.economies → Sound X.market X.within X.top e
    pub numbered : SetsNumbered X.market X.member X.sets

  pub record Proper (v : Table) : Type 0 where
    pub monotone : Monotone X.market X.within v
    pub free : (i : ℕ) → Bidder X.market i → v i 0 ≡ 0

  -- bidder i can be left out of the allocations of all, which leaves al-i
  pub record Leaving (al : List A) (i : ℕ) (al_i : List A) : Type 0 where
    pub bidder : Bidder X.market i
    pub leaves : Leaves X.market X.within i al al_i
    pub fewer : (a : A) → a ∈ al_i → a ∈ al

  -- and has an economy without it
  pub record Marginal (al : List A) (i : ℕ) (al_i : List A) : Type 0 where
    pub leaving : Leaving al i al_i
    pub others : lacking i al_i ∈ X.economies

  -- 1 more than the number of the set that a round raises, 0 if no set is undersupplied
  abbrev pub chosen : Quote → ℕ
  chosen q = lowest X.market X.member X.sets X.economies q

  -- settled prices, of which bidders with worths v and payoffs b made the quote
  pub record Settlement (v : Table) (b : ℕ → ℕ) (q : Quote) : Type 0 where
    pub ready : Ready
    pub proper : Proper v
    pub truthful : (e : Economy A) → e ∈ X.economies → Truthful X.market v b e.lists q
    pub settled : chosen q ≡ 0

  -- a sale's state is the bidders' payoffs, at first their worths of all, and later no more than those
  abbrev pub start : Table → ℕ → ℕ
  start v i = v i X.top

  abbrev pub round : ℕ → (ℕ → ℕ) → ℕ → ℕ
  round n π = lower (X.member n) π

  abbrev pub Modest : Table → (ℕ → ℕ) → Type 0
  Modest v π = (i : ℕ) → Bidder X.market i → π i ≤ v i X.top

  -- the sets of at most f rounds from the payoffs π on, and the payoffs after them
  abbrev pub rounds : Table → (ℕ → ℕ) → ℕ → List ℕ
  rounds v π f = choices (λ π. chosen (own v π)) round f π

  abbrev pub last : Table → (ℕ → ℕ) → ℕ → ℕ → ℕ
  last v π f = after round π (rounds v π f)

  -- no set is undersupplied: the prices are a UCE
  abbrev pub SettledAt : Table → (ℕ → ℕ) → Type 0
  SettledAt v π = chosen (own v π) ≡ 0

  -- how many bidders a set has
  abbrev pub size : ℕ → ℕ
  size n = sum_of X.market (λ i. when (X.member n i) 1)
