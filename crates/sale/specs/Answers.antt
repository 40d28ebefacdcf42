-- What the public functions answer, for every sheet, record and price table: `demand_answer`, `settled_answer`,
-- `sale_answer`, `sale_record`; that a sale has one answer (`OneAnswer`), and what is said of prices that are settled
-- or not (`SettledAnswers`).
use Rattle.std.specs.Prelude.{◌≡◌, ◌↔◌, true, false, List, ℕ, ◌<◌, eqb, leb, length, replicate}
use Rattle.theory.specs.Lists.{over}
use Rattle.offers.specs.Offers.{Offer, offer_of, demand_set, is_keen, lowest}
use Rattle.offers.specs.Rounds.{round_limit, sale_sets, prices_after, last_prices, owners_by, discount_for, payment_for}
use Rattle.offers.specs.Claims.{Prices, Agree, UCE, Claimed}
use Rattle.offers.specs.Places.{four, per_buyer}
use Rattle.sheet.specs.declared.Fault.{Fault}
use Rattle.sheet.specs.Sheets.{sheet_of}
use Rattle.sheet.specs.Questions.{fault, accepts, onward, ask, between, sheet_fault}
use Rattle.sale.specs.declared.Demand.{Demand}
use Rattle.sale.specs.declared.Settled.{Settled}
use Rattle.sale.specs.declared.Sale.{Sale}

-- rule 3.9: questions 1 to 8, then 9; `room` is the length of the record
abbrev pub sale_fault : List ℕ → ℕ → Fault
sale_fault b room =
    let f = sheet_fault b in onward (accepts f) (λ _. ask 9 (leb (round_limit (offer_of b)) room) λ _. fault 0 0) f

-- rule 3.10: questions 1 to 8, then 10
abbrev pub demand_fault : List ℕ → ℕ → Fault
demand_fault b i =
    let f = sheet_fault b in onward (accepts f) (λ _. ask 10 (between (sheet_of b).buyers i) λ _. fault 0 0) f

-- rule 3.14: number and place, and zeros
unfoldable pub refused_demand : Fault → Demand
refused_demand f = record { number = f.number; place = f.place; bundles = 0; keen = false }

unfoldable pub refused_settled : Fault → Settled
refused_settled f = record { number = f.number; place = f.place; settled = false }

unfoldable pub refused_sale : Fault → Sale
refused_sale f =
    record {
      number = f.number;
      place = f.place;
      buyers = 0;
      lots = 0;
      rounds = 0;
      prices = replicate 96 0;
      owners = replicate 4 0;
      discounts = replicate 6 0;
      payments = replicate 6 0;
    }

-- a demand answer at prices brought from outside
unfoldable pub demand_answer : List ℕ → ℕ → List ℕ → Demand
demand_answer b i ps =
    let f = demand_fault b i in
    onward (accepts f) (λ _. record {
      number = 0;
      place = 0;
      bundles = demand_set (offer_of b) ps i;
      keen = is_keen (offer_of b) ps i;
    }) (refused_demand f)

-- whether prices brought from outside are settled: no set of keen buyers, the empty one included, is undersupplied
unfoldable pub judged : Offer → List ℕ → Settled
judged O ps = record { number = 0; place = 0; settled = eqb (lowest O ps) 0 }

unfoldable pub settled_answer : List ℕ → List ℕ → Settled
settled_answer b ps = let f = sheet_fault b in onward (accepts f) (λ _. judged (offer_of b) ps) (refused_settled f)

-- rule 5.4: a settled sale's answer
unfoldable pub settled_sale : Offer → Sale
settled_sale O =
    record {
      number = 0;
      place = 0;
      buyers = O.buyers;
      lots = O.lots;
      rounds = length (sale_sets O);
      prices = last_prices O;
      owners = four (owners_by O (last_prices O));
      discounts = per_buyer O.buyers (discount_for O (last_prices O));
      payments = per_buyer O.buyers (payment_for O (last_prices O));
    }

unfoldable pub sale_answer : List ℕ → ℕ → Sale
sale_answer b room = let f = sale_fault b room in onward (accepts f) (λ _. settled_sale (offer_of b)) (refused_sale f)

-- the record after a sale: rule 4.12; refused, rule 3.14
unfoldable pub sale_record : List ℕ → List ℕ → List ℕ
sale_record b o = onward (accepts (sale_fault b (length o))) (λ _. over (sale_sets (offer_of b)) o) o

-- a sale's whole answer and the record after it; o is the record before
pub record SaleSays (b o o' : List ℕ) (r : Sale) : Type 0 where
  pub answer : r ≡ sale_answer b (length o)
  pub bytes : o' ≡ sale_record b o

-- there is one such answer and record after for a sheet's bytes and the record before
abbrev pub OneAnswer : Type 0
OneAnswer =
    (b o o₁ o₂ : List ℕ) (r₁ r₂ : Sale) → SaleSays b o o₁ r₁ → SaleSays b o o₂ r₂ → (r₁ ≡ r₂) × (o₁ ≡ o₂)

-- what is claimed of an offer and its sale holds of every accepted sheet
abbrev pub Sales : Type 0
Sales = (b : List ℕ) → (sheet_fault b).number ≡ 0 → Claimed (offer_of b)

-- of any prices
pub record SettledAnswers : Type 0 where
  -- they are settled exactly if they are a UCE
  pub settled_means : (b ps : List ℕ) → Prices ps → (settled_answer b ps).number ≡ 0 →
      ((settled_answer b ps).settled ≡ true) ↔ UCE (offer_of b) ps
  -- a sale's last prices are, and those before each of its rounds are not
  pub settled_last : (b o o' : List ℕ) (r : Sale) → SaleSays b o o' r → r.number ≡ 0 →
      settled_answer b r.prices ≡ record { number = 0; place = 0; settled = true }
  pub unsettled_earlier : (b o o' : List ℕ) (r : Sale) → SaleSays b o o' r → r.number ≡ 0 →
      (k : ℕ) → k < r.rounds →
      settled_answer b (prices_after (offer_of b) k) ≡ record { number = 0; place = 0; settled = false }
  -- rule 1.7: the entries that are not read make no difference
  pub settled_reads : (b ps qs : List ℕ) → Agree (offer_of b) ps qs → settled_answer b ps ≡ settled_answer b qs
