-- What is claimed of an offer and its sale (`Claimed`): of its allocations, at any prices (`AtPrices`, with universal
-- competitive equilibria as the paper has them), at every round (`AtRound`), from one to the next (`FromRound`), and of
-- all rounds (`Ascending`, demand 2).
use Rattle.std.specs.Prelude.{◌≡◌, ◌⊎◌, ◌↔◌, Bool, true, false, not, ◌&&◌, List, ℕ, suc, ◌+◌, ◌-◌, ◌*◌, ◌^◌, ◌≤◌, ◌<◌}
use Rattle.std.specs.Prelude.{length, get_or, replicate}
use Rattle.theory.specs.Sums.{Among, when}
use Rattle.theory.specs.Lists.{◌∈◌, Ordered, sum_over}
use Rattle.theory.specs.Markets.{sum_of, total}
use Rattle.theory.specs.Auction.{Economy, Minimal, Marginal, supplied, size}
use Rattle.numbers.specs.Numbers.{bit}
use Rattle.owners.specs.Owners.{ComesBefore, lacks}
use Rattle.owners.specs.Prices.{read}
use Rattle.owners.specs.Quick.{present_in}
use Rattle.owners.specs.Sales.{Setting, Valuations}
use Rattle.owners.specs.Singles.{AtMost}
use Rattle.offers.specs.Offers.{Offer, market, Bids, layout, member, bits, worth_of, price_at, without, economy}
use Rattle.offers.specs.Offers.{the_auction, best, quote, demand_set, is_keen, revenue, fits, undersupplied, lowest}
use Rattle.offers.specs.Rounds.{raised, round_limit, start_prices, sale_sets, prices_after, last_prices, owners_by}
use Rattle.offers.specs.Rounds.{discount_for}

-- a price table that may come from outside
abbrev pub Prices : List ℕ → Type 0
Prices ps = (k : ℕ) → get_or ps k 0 ≤ 65535

module _ (O : Offer) where
  -- two price tables that agree for the bidders there are and the bundles there are, but for the empty one
  abbrev pub Agree : List ℕ → List ℕ → Type 0
  Agree ps qs = (i s : ℕ) → Bids O i → 1 ≤ s → s < O.bundles →
      get_or ps (16 * (layout O).row_of i + s) 0 ≡ get_or qs (16 * (layout O).row_of i + s) 0

  -- everything that a sale looks at is then the same
  pub record SameAnswers (ps qs : List ℕ) : Type 0 where
    pub demand : (i : ℕ) → Bids O i → demand_set O ps i ≡ demand_set O qs i
    pub keen : (i : ℕ) → Bids O i → is_keen O ps i ≡ is_keen O qs i
    pub revenues : (e : ℕ) → e ≤ O.buyers → revenue O ps e ≡ revenue O qs e
    pub fitting : (e : ℕ) → e ≤ O.buyers → (a : List ℕ) → a ∈ economy O e → fits O ps e a ≡ fits O qs e a
    pub chosen : lowest O ps ≡ lowest O qs

  -- s has the greatest payoff of all bundles: payoffs may be negative, so they are compared as sums
  abbrev pub Demanded : List ℕ → ℕ → ℕ → Type 0
  Demanded ps i s = (t : ℕ) → t < O.bundles → worth_of O i t + price_at O ps i s ≤ worth_of O i s + price_at O ps i t

  -- definition 1: a competitive equilibrium of the economy e (0: of all bidders): a list of its allocations, of
  -- greatest takings among them, in which every bidder present, keen or not, holds a bundle of greatest payoff
  pub record Supports (ps : List ℕ) (e : ℕ) (a : List ℕ) : Type 0 where
    pub among : a ∈ economy O e
    pub seller : (c : List ℕ) → c ∈ economy O e →
        total (market O) (price_at O ps) c ≤ total (market O) (price_at O ps) a
    pub buyers : (i : ℕ) → Bids O i → present_in e i ≡ true → Demanded ps i ((market O).holds a i)

  -- definition 2: a universal competitive equilibrium
  abbrev pub UCE : List ℕ → Type 0
  UCE ps = (e : ℕ) → e ≤ O.buyers → (a : List ℕ) × Supports ps e a

  -- an economy by its number (rule 4.4): its allocations, and who is present
  abbrev pub economy_at : ℕ → Economy (List ℕ)
  economy_at e = record { lists = economy O e; present = present_in e }

  -- in economy e some fitting allocation gives every member present a demanded bundle: the set is not undersupplied
  -- there (rule 4.7)
  abbrev pub supplied_at : List ℕ → ℕ → ℕ → Bool
  supplied_at ps e set = supplied (market O) (quote O ps) (member O set) (economy_at e)

  -- how many members of the set are present in economy e
  abbrev pub members_at : ℕ → ℕ → ℕ
  members_at e set = sum_of (market O) (λ i. when (present_in e i && member O set i) 1)

  -- the allocations are all owner lists of the lots, in order; an economy has those that give its absent buyer nothing
  pub record Allocated : Type 0 where
    pub allocations_all : (a : List ℕ) → (a ∈ O.lists) ↔ ((length a ≡ O.lots) × ((o : ℕ) → o ∈ a → o ≤ O.buyers))
    pub allocations_ordered : Ordered (ComesBefore ◌<◌) O.lists
    pub economy-whole : economy O 0 ≡ O.lists
    pub economy_all : (e : ℕ) → 1 ≤ e → (a : List ℕ) → (a ∈ economy O e) ↔ ((a ∈ O.lists) × (lacks e a ≡ true))
    -- rule 4.4: of one buyer that is nothing sold
    pub economy_alone : O.buyers ≡ 1 → (a : List ℕ) → (a ∈ economy O 1) ↔ (a ≡ replicate O.lots 0)
    -- a bundle's bits are the lots that its buyer owns, and it has no others
    pub bundle_bits : (a : List ℕ) → a ∈ O.lists → (i j : ℕ) → j < O.lots →
        (bit j ((market O).holds a i) ≡ true) ↔ (get_or a j 0 ≡ i)
    pub bundle_below : (a : List ℕ) → a ∈ O.lists → (i : ℕ) → (market O).holds a i < O.bundles

  -- at any prices
  pub record AtPrices (ps : List ℕ) : Type 0 where
    -- the demand set's bits are the bundles of greatest payoff, and it has no others; keen is who has a bundle of
    -- positive payoff
    pub demand_means : (i s : ℕ) → Bids O i → s < O.bundles →
        (bit s (demand_set O ps i) ≡ true) ↔ Demanded ps i s
    pub demand_below : (i : ℕ) → demand_set O ps i < 2 ^ O.bundles
    pub demand_some : (i : ℕ) → Bids O i → (s : ℕ) × (s < O.bundles) × (bit s (demand_set O ps i) ≡ true)
    pub keen_means : (i : ℕ) → Bids O i →
        (is_keen O ps i ≡ true) ↔ ((s : ℕ) × (s < O.bundles) × (price_at O ps i s < worth_of O i s))
    -- a round raises the prices of the set's members for the bundles that they demand, and no others, by 1
    pub raised-price : (set i s : ℕ) → Bids O i → 1 ≤ s → s < O.bundles →
        price_at O (raised O set ps) i s ≡ price_at O ps i s + when (member O set i && bit s (demand_set O ps i)) 1
    -- what fits (rule 4.6), by payoffs and totals of prices
    pub fits_means : (e : ℕ) (a : List ℕ) → a ∈ economy O e → (fits O ps e a ≡ true) ↔
        (((c : List ℕ) → c ∈ economy O e → total (market O) (price_at O ps) c ≤ total (market O) (price_at O ps) a)
        × ((i : ℕ) → Bids O i → ((market O).holds a i ≡ 0) ⊎ Demanded ps i ((market O).holds a i)))
    -- what an undersupplied set is (rule 4.7), by fitting allocations and payoffs
    pub undersupplied_means : (set : ℕ) → (undersupplied O ps set ≡ true) ↔
        (((i : ℕ) → Bids O i → member O set i ≡ true → is_keen O ps i ≡ true)
        × ((e : ℕ) × (e ≤ O.buyers) × ((a : List ℕ) → a ∈ economy O e → fits O ps e a ≡ true →
        ((i : ℕ) → Bids O i → present_in e i ≡ true → member O set i ≡ true →
        Demanded ps i ((market O).holds a i)) → ⊥)))
    -- what a set supplied in one economy is, by the same
    pub supplied_means : (e set : ℕ) → (supplied_at ps e set ≡ true) ↔
        ((a : List ℕ) × (a ∈ economy O e) × (fits O ps e a ≡ true)
        × ((i : ℕ) → Bids O i → present_in e i ≡ true → member O set i ≡ true → Demanded ps i ((market O).holds a i)))
    -- if some set is undersupplied, then so is that of all keen bidders
    pub all_keen : (set all : ℕ) → undersupplied O ps set ≡ true →
        ((i : ℕ) → Bids O i → member O all i ≡ is_keen O ps i) → undersupplied O ps all ≡ true
    -- no set, the empty one included, is undersupplied exactly if the prices are a UCE
    pub settled_iff_uce : (lowest O ps ≡ 0) ↔ UCE ps
    -- the lowest undersupplied set is the least, and none of its proper subsets is undersupplied (minimal, as
    -- definition 11 has it where there is universal overdemand)
    pub lowest-least : (set : ℕ) → lowest O ps ≡ suc set →
        (undersupplied O ps set ≡ true) × ((other : ℕ) → other < set → undersupplied O ps other ≡ false)
    pub lowest_minimal : (set : ℕ) → lowest O ps ≡ suc set →
        Minimal (market O) (quote O ps) (the_auction O).economies (member O set)
    -- the revenue is reached and not passed; nothing is cut off in a discount
    pub revenue-greatest : (e : ℕ) →
        ((a : List ℕ) × (a ∈ economy O e) × (total (market O) (price_at O ps) a ≡ revenue O ps e))
        × ((c : List ℕ) → c ∈ economy O e → total (market O) (price_at O ps) c ≤ revenue O ps e)
    pub exact_discount : (i : ℕ) → Among O.buyers 1 i → discount_for O ps i + revenue O ps i ≡ revenue O ps 0
    -- rule 1.7: the entries that are not read make no difference
    pub reads_present : (qs : List ℕ) → Agree ps qs → SameAnswers ps qs

  -- after k rounds
  pub record AtRound (k : ℕ) : Type 0 where
    -- the empty set is supplied, and each economy has an allocation that fits
    pub empty_supplied : undersupplied O (prices_after O k) 0 ≡ false
    pub fits_always : (e : ℕ) → e ≤ O.buyers → (a : List ℕ) × (a ∈ economy O e) × (fits O (prices_after O k) e a ≡ true)
    -- each price is the worth less the payoff, cut off at 0, so at most the worth; those of absent bidders and bundles
    -- are 0
    pub own_prices : (i s : ℕ) → Bids O i → s < O.bundles →
        price_at O (prices_after O k) i s ≡ worth_of O i s - (best O (prices_after O k) i - 65535)
    pub price_bound : (i s : ℕ) → Bids O i → s < O.bundles → price_at O (prices_after O k) i s ≤ worth_of O i s
    pub absent_zero : (j : ℕ) → j < 16 * (layout O).rows → read (layout O) O.bundles j ≡ false →
        get_or (prices_after O k) j 0 ≡ 0

  -- the recorded set of round k + 1
  abbrev pub set_at : ℕ → ℕ
  set_at k = get_or (sale_sets O) k 0

  -- from the prices after k rounds to those after the next
  pub record FromRound (k : ℕ) : Type 0 where
    -- an economy's revenue (rule 4.5) rises by 1 for each member of the round's set that is present, less 1 exactly if
    -- the set is undersupplied there; said as a sum, so that nothing is cut off
    pub kept_revenues : (e : ℕ) → e ≤ O.buyers →
        revenue O (prices_after O (suc k)) e + when (not (supplied_at (prices_after O k) e (set_at k))) 1
        ≡ revenue O (prices_after O k) e + members_at e (set_at k)
    -- no revenue falls
    pub never_falls : (e : ℕ) → e ≤ O.buyers → revenue O (prices_after O k) e ≤ revenue O (prices_after O (suc k)) e

  pub record Ascending : Type 0 where
    -- the last prices are a UCE, and no earlier ones are
    pub last_uce : UCE (last_prices O)
    pub none_earlier : (k : ℕ) → k < length (sale_sets O) → UCE (prices_after O k) → ⊥
    -- universal overdemand (definition 10) in every round: some allocation fits (`fits_always`), and the set of all
    -- keen bidders is undersupplied
    pub overdemand : (k : ℕ) → k < length (sale_sets O) → (all : ℕ) →
        ((i : ℕ) → Bids O i → member O all i ≡ is_keen O (prices_after O k) i) →
        undersupplied O (prices_after O k) all ≡ true
    -- each recorded set is the lowest undersupplied one at its prices, minimal by definition 11, one of the bidders
    -- there are, and has a member
    pub lowest_set : (k : ℕ) → k < length (sale_sets O) → lowest O (prices_after O k) ≡ suc (set_at k)
    pub least-set : (k : ℕ) → k < length (sale_sets O) →
        (undersupplied O (prices_after O k) (set_at k) ≡ true)
        × ((set : ℕ) → set < set_at k → undersupplied O (prices_after O k) set ≡ false)
    pub minimal_set : (k : ℕ) → k < length (sale_sets O) →
        Minimal (market O) (quote O (prices_after O k)) (the_auction O).economies (member O (set_at k))
    pub set_below : (k : ℕ) → k < length (sale_sets O) → set_at k < 2 ^ bits O
    pub not_empty : (k : ℕ) → k < length (sale_sets O) → (i : ℕ) × Bids O i × (member O (set_at k) i ≡ true)
    -- from the zeros on, round by round, the recorded sets give the prices
    pub from_zeros : prices_after O 0 ≡ start_prices O
    pub replay : (k : ℕ) → k < length (sale_sets O) → prices_after O (suc k) ≡ raised O (set_at k) (prices_after O k)
    pub to_last : prices_after O (length (sale_sets O)) ≡ last_prices O
    -- the rounds are at most question 9's sum
    pub few_rounds : length (sale_sets O) ≤ round_limit O
    -- one raise a member a round: the raises and the last payoffs make up the worths of all lots; no payoff is cut off
    pub not_cut : (i : ℕ) → Bids O i → 65535 ≤ best O (last_prices O) i
    pub raises :
        sum_over (size (the_auction O)) (sale_sets O) + sum_of (market O) (λ i. best O (last_prices O) i - 65535)
        ≡ round_limit O
    -- the sale's own owners support the last prices: they fit, and serve every keen bidder
    pub sold_supports : Supports (last_prices O) 0 (owners_by O (last_prices O))
    pub sold-fits : fits O (last_prices O) 0 (owners_by O (last_prices O)) ≡ true

pub record Claimed (O : Offer) : Type 0 where
  pub lists : Allocated O
  pub at_prices : (ps : List ℕ) → Prices ps → AtPrices O ps
  pub at-round : (k : ℕ) → k ≤ length (sale_sets O) → AtRound O k
  pub kept : (k : ℕ) → k < length (sale_sets O) → FromRound O k
  pub second : Ascending O

-- what they are proved from, of an offer: its auction is one that the theory is about, each economy has an allocation,
-- a buyer can be left out, and worths are no higher than prices can be
pub record Regular (O : Offer) : Type 0 where
  pub setting : Setting (the_auction O) (layout O) O.bundles (bits O) O.lists
  pub worths : Valuations (the_auction O) (layout O) O.bundles (worth_of O)
  pub some : (e : ℕ) → (a : List ℕ) × (a ∈ economy O e)
  pub buyer : (i : ℕ) → Among O.buyers 1 i → Marginal (the_auction O) O.lists i (without O i)
  pub small : AtMost 65535 O.worths
