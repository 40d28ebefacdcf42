-- The three demands, each of what the public functions answer: for any sheets, records, prices and answers. `Promises`
-- has them together.
use Rattle.std.specs.Prelude.{◌≡◌, ◌≢◌, ◌⊎◌, ◌↔◌, List, [], ◌∷◌, ℕ, ◌+◌, ◌-◌, ◌^◌, ◌≤◌, ◌<◌, length, take, get_or}
use Rattle.theory.specs.Sums.{Among}
use Rattle.theory.specs.Lists.{◌∈◌}
use Rattle.owners.specs.Owners.{ComesBefore}
use Rattle.sheet.specs.Sheets.{Sheet, sheet_of}
use Rattle.sheet.specs.Questions.{fault}
use Rattle.sheet.specs.Claims.{Question, Placed}
use Rattle.sheet.specs.Answers.{refusal, worths_read, sheet_read}
use Rattle.offers.specs.Offers.{Offer, lots_of, offer_of, market, worth_of, price_at}
use Rattle.offers.specs.Rounds.{round_limit, sale_sets, last_prices, total_of}
use Rattle.offers.specs.Claims.{UCE, Claimed}
use Rattle.sale.specs.declared.Sale.{Sale}
use Rattle.sale.specs.Answers.{refused_demand, refused_settled, refused_sale, demand_answer, settled_answer, SaleSays}
use Rattle.direct.specs.declared.Direct.{Direct}
use Rattle.direct.specs.Answers.{refused_direct, direct_answer}

-- Demand 1 (rules 3.11 to 3.15 and 5.12). A question that an entry puts after 1 to 8: its number, what it asks, and
-- what the place says where it gets a no.
pub record Own : Type 1 where
  pub number : ℕ
  pub Yes : Type 0
  pub Place : ℕ → Type 0

abbrev pub unplaced : ℕ → Type 0 → Own
unplaced k Yes = record { number = k; Yes = Yes; Place = λ place. place ≡ 0 }

abbrev pub AllYes : List Own → Type 0
AllYes [] = Unit {0}
AllYes (q ∷ own) = q.Yes × AllYes own

-- the first of some questions that gets a no has this number and this place
abbrev pub FirstNo : List Own → ℕ → ℕ → Type 0
FirstNo [] number place = ⊥
FirstNo (q ∷ own) number place =
    ((q.Yes → ⊥) × (number ≡ q.number) × q.Place place) ⊎ (q.Yes × FirstNo own number place)

-- what number and place an entry can answer that puts the questions 1 to 8, and then `own`, in order
pub record Numbered (b : List ℕ) (own : List Own) (number place : ℕ) : Type 0 where
  pub accepts : (number ≡ 0) ↔ (((k : ℕ) → Question b k) × AllYes own)
  pub first_no : (k : ℕ) → 1 ≤ k → k ≤ 8 → (number ≡ k) ↔ (((j : ℕ) → j < k → Question b j) × (Question b k → ⊥))
  pub range : (number ≤ 8) ⊎ (((k : ℕ) → Question b k) × FirstNo own number place)
  pub no_place : number < 6 → place ≡ 0
  pub a_place : 6 ≤ number → number ≤ 8 → (13 ≤ place) × (place < length b)
  pub least_place : Placed b number place

pub record Refusals : Type 0 where
  -- reading, which has no question of its own
  pub reads : (b : List ℕ) → let r = sheet_read b in Numbered b [] r.number r.place
  pub reads_worths : (b : List ℕ) → let r = worths_read b in Numbered b [] r.number r.place
  pub reads_refused : (b : List ℕ) → let r = sheet_read b in r.number ≢ 0 →
      r ≡ record { number = r.number; place = r.place; buyers = 0; lots = 0 }
  pub reads_worths_refused : (b : List ℕ) → let r = worths_read b in r.number ≢ 0 → r ≡ refusal r.number r.place
  -- a demand answer
  pub demands : (b : List ℕ) (i : ℕ) (ps : List ℕ) → let r = demand_answer b i ps in
      Numbered b (unplaced 10 (Among (sheet_of b).buyers 1 i) ∷ []) r.number r.place
  pub demands_refused : (b : List ℕ) (i : ℕ) (ps : List ℕ) → let r = demand_answer b i ps in r.number ≢ 0 →
      r ≡ refused_demand (fault r.number r.place)
  -- whether prices are settled
  pub settles : (b ps : List ℕ) → let r = settled_answer b ps in Numbered b [] r.number r.place
  pub settles_refused : (b ps : List ℕ) → let r = settled_answer b ps in r.number ≢ 0 →
      r ≡ refused_settled (fault r.number r.place)
  -- a sale: 0 means settled, and a refusal leaves the record as it was
  pub sells : (b o o' : List ℕ) (r : Sale) → SaleSays b o o' r →
      Numbered b (unplaced 9 (round_limit (offer_of b) ≤ length o) ∷ []) r.number r.place
  pub sells_settled : (b o o' : List ℕ) (r : Sale) → SaleSays b o o' r → r.number ≡ 0 → UCE (offer_of b) r.prices
  pub sells_refused : (b o o' : List ℕ) (r : Sale) → SaleSays b o o' r → r.number ≢ 0 →
      (r ≡ refused_sale (fault r.number r.place)) × (o' ≡ o)
  -- the direct way
  pub directs : (b : List ℕ) (d : Direct) → d ≡ direct_answer b → Numbered b [] d.number d.place
  pub directs_refused : (b : List ℕ) (d : Direct) → d ≡ direct_answer b → d.number ≢ 0 →
      d ≡ refused_direct (fault d.number d.place)

-- Demand 2, of a settled sale's answer and record
pub record Recorded (O : Offer) (o o' : List ℕ) (r : Sale) : Type 0 where
  pub claimed : Claimed O
  pub rounds : r.rounds ≡ length (sale_sets O)
  pub sets : (k : ℕ) → k < r.rounds → get_or o' k 0 ≡ get_or (sale_sets O) k 0
  pub later : (k : ℕ) → r.rounds ≤ k → get_or o' k 0 ≡ get_or o k 0
  pub long : length o' ≡ length o
  pub prices : r.prices ≡ last_prices O

abbrev pub Records : Type 0
Records = (b o o' : List ℕ) (r : Sale) → SaleSays b o o' r → r.number ≡ 0 → Recorded (offer_of b) o o' r

-- Demand 3 (rules 5.13 to 5.16). An allocation (rule 5.6)
abbrev pub Allocation : Offer → List ℕ → Type 0
Allocation O a = (length a ≡ O.lots) × ((o : ℕ) → o ∈ a → o ≤ O.buyers)

abbrev pub GivesNothing : ℕ → List ℕ → Type 0
GivesNothing i a = (o : ℕ) → o ∈ a → o ≢ i

-- buyer i's bundle in an answer's four places, and its number in six
abbrev pub bundle_in : Offer → ℕ → List ℕ → ℕ
bundle_in O i owners = (market O).holds owners i

abbrev pub number_in : ℕ → List ℕ → ℕ
number_in i l = get_or l (i - 1) 0

-- t is the greatest total without i (rule 5.8): reached, and not passed
pub record GreatestWithout (O : Offer) (i t : ℕ) : Type 0 where
  pub reached : (a : List ℕ) × Allocation O a × GivesNothing i a × (total_of O a ≡ t)
  pub not_passed : (a : List ℕ) → Allocation O a → GivesNothing i a → total_of O a ≤ t

-- the direct way's answer
pub record Reckoned (O : Offer) (d : Direct) : Type 0 where
  pub list : Allocation O (take O.lots d.owners)
  pub past : (j : ℕ) → O.lots ≤ j → get_or d.owners j 0 ≡ 0
  pub total : total_of O (take O.lots d.owners) ≡ d.total
  pub most : (a : List ℕ) → Allocation O a → total_of O a ≤ d.total
  -- the tie rule
  pub ties : (a : List ℕ) → Allocation O a → total_of O a ≡ d.total →
      (a ≡ take O.lots d.owners) ⊎ ComesBefore ◌<◌ (take O.lots d.owners) a
  -- rule 5.10, as a sum
  pub payments : (i : ℕ) → Among O.buyers 1 i →
      (t : ℕ) × GreatestWithout O i t
      × (number_in i d.payments + d.total ≡ t + worth_of O i (bundle_in O i d.owners))
  pub absent : (i : ℕ) → O.buyers < i → number_in i d.payments ≡ 0
  pub bounded : (i : ℕ) → Among O.buyers 1 i →
      (number_in i d.payments ≤ worth_of O i (bundle_in O i d.owners)) × (number_in i d.payments ≤ 9999)

-- sheets alike in all but buyer i's worths (rule 5.15)
pub record AlikeBut (i : ℕ) (w v : Sheet) : Type 0 where
  pub buyers : w.buyers ≡ v.buyers
  pub lots : w.lots ≡ v.lots
  pub others : (k s : ℕ) → Among w.buyers 1 k → k ≢ i → s < 2 ^ w.lots → worth_of (lots_of w) k s
      ≡ worth_of (lots_of v) k s

-- rule 5.15: i has no less from the first answer than from the second, by the worths of O; as sums
abbrev pub NoGain : Offer → ℕ → List ℕ → List ℕ → List ℕ → List ℕ → Type 0
NoGain O i owners payments owners' payments' =
    worth_of O i (bundle_in O i owners') + number_in i payments
    ≤ worth_of O i (bundle_in O i owners) + number_in i payments'

pub record Outcomes : Type 0 where
  -- a sheet that a sale accepts the direct way accepts, and their owners and payments are alike, place for place
  pub alike : (b o o' : List ℕ) (r : Sale) (d : Direct) → SaleSays b o o' r → d ≡ direct_answer b → r.number ≡ 0 →
      (d.number ≡ 0) × (r.owners ≡ d.owners) × (r.payments ≡ d.payments)
  pub reckoned : (b : List ℕ) (d : Direct) → d ≡ direct_answer b → d.number ≡ 0 → Reckoned (offer_of b) d
  -- b has buyer i's true table
  pub no_gain_sale : (b o o' : List ℕ) (r : Sale) (c q q' : List ℕ) (s : Sale) → SaleSays b o o' r → SaleSays c q q' s →
      r.number ≡ 0 → s.number ≡ 0 → (i : ℕ) → Among (sheet_of b).buyers 1 i → AlikeBut i (sheet_of b) (sheet_of c) →
      NoGain (offer_of b) i r.owners r.payments s.owners s.payments
  pub no_gain_direct : (b : List ℕ) (d : Direct) (c : List ℕ) (e : Direct) → d ≡ direct_answer b → e ≡ direct_answer c →
      d.number ≡ 0 → e.number ≡ 0 → (i : ℕ) → Among (sheet_of b).buyers 1 i → AlikeBut i (sheet_of b) (sheet_of c) →
      NoGain (offer_of b) i d.owners d.payments e.owners e.payments
  -- nothing is cut off in a sale's payments
  pub exact_payment : (b o o' : List ℕ) (r : Sale) → SaleSays b o o' r → r.number ≡ 0 → (i : ℕ) →
      Among (sheet_of b).buyers 1 i →
      number_in i r.payments + number_in i r.discounts
      ≡ price_at (offer_of b) r.prices i (bundle_in (offer_of b) i r.owners)
  pub payment_bound : (b o o' : List ℕ) (r : Sale) → SaleSays b o o' r → r.number ≡ 0 → (i : ℕ) →
      Among (sheet_of b).buyers 1 i →
      (number_in i r.payments ≤ worth_of (offer_of b) i (bundle_in (offer_of b) i r.owners))
      × (number_in i r.payments ≤ 9999)

pub record Promises : Type 0 where
  pub first : Refusals
  pub second : Records
  pub third : Outcomes
