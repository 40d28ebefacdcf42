-- Demand 3 (`outcomes_hold`): sale and direct way answer alike; the direct way's list is the first of greatest total,
-- and its payments are exact; nobody gains by another table.
use mathlib.Core.Path.{◌≡◌, refl, sym, ap, subst, ◌∙◌}
use mathlib.Core.List.{List}
use Prim.Native.Nat.{ℕ, zero, suc, ◌+◌, ◌-◌, ◌≤◌, ◌<◌}
use native.Mathlib.Omega.{arith}
use lib.Dec.{eqb}
use lib.ListN.{length}
use Rattle.theory.specs.Sums.{Among}
use Rattle.theory.proofs.Tests.{by_test}
use Rattle.theory.proofs.Lists.{most_upper, most-reached}
use Rattle.owners.specs.Owners.{ComesBefore}
use Rattle.owners.specs.Singles.{AtMost}
use Rattle.owners.proofs.Owners.{lacks_means}
use Rattle.sheet.specs.Sheets.{sheet_of}
use Rattle.sheet.specs.Questions.{sheet_fault}
use Rattle.offers.specs.Offers.{Offer, offer_of, market, worth_of, price_at}
use Rattle.offers.specs.Rounds.{last_prices, discount_for, payment_for, total_of, greatest_without, direct_owners}
use Rattle.offers.specs.Rounds.{direct_payment}
use Rattle.offers.specs.Claims.{Allocated, Regular}
use Rattle.offers.specs.Places.{four, per_buyer}
use Rattle.offers.proofs.Places.{per_buyer-at, per_buyer_same, per_buyer_past, four_short, four_past, four_bundle}
use Rattle.offers.proofs.Lots.{allocated, shape, regular}
use Rattle.offers.proofs.Outcomes.{direct_in, direct-total, direct_ties, direct_pays, direct_cheap, same_owners}
use Rattle.offers.proofs.Outcomes.{same_payment, payment_exact, reworth, no_gain}
use Rattle.sale.specs.declared.Sale.{Sale}
use Rattle.sale.specs.Answers.{settled_sale, SaleSays}
use Rattle.sale.proofs.Opening.{sale_open}
use Rattle.direct.specs.declared.Direct.{Direct}
use Rattle.direct.specs.Answers.{reckoned, direct_answer}
use Rattle.direct.proofs.Opening.{direct_open, direct-number}
use Rattle.promises.specs.Claims.{bundle_in, number_in, GreatestWithout, Reckoned, AlikeBut, NoGain, Outcomes}

-- a buyer's number among six
place_in : (m : ℕ) (f : ℕ → ℕ) (i : ℕ) → m ≤ 6 → Among m 1 i → number_in i (per_buyer m f) ≡ f i
place_in m f zero few r = absurd (omega arith)
place_in m f (suc k) few r = let e : suc k - 1 ≡ k = omega arith in rw e (per_buyer-at m f k few (omega arith))

-- an offer to at most six buyers
module _ (O : Offer) (good : Regular O) (lists : Allocated O) (few : O.buyers ≤ 6) where
  abbrev m : ℕ
  m = O.buyers

  long : length (direct_owners O) ≡ O.lots
  long = ((lists.allocations_all (direct_owners O)).0 (direct_in O good)).0

  -- the greatest total without i, over the allocations that give i nothing
  greatest : (i : ℕ) → Among m 1 i → GreatestWithout O i (greatest_without O i)
  greatest i r =
      let all = lists.economy_all i (omega arith) in
      let (a, among, e) = most-reached (total_of O) (good.some i).1 in
      let (listed, none) = (all a).0 among in
      record {
        reached = (a, (lists.allocations_all a).0 listed, (lacks_means i a).0 none, e);
        not_passed = λ c listed' none'.
            most_upper (total_of O) ((all c).1 ((lists.allocations_all c).1 listed', (lacks_means i c).1 none'));
      }

  due_in : (i : ℕ) → Among m 1 i → number_in i (per_buyer m (direct_payment O)) ≡ direct_payment O i
  due_in i r = place_in m (direct_payment O) i few r

  bundle_is : (i : ℕ) → Among m 1 i → bundle_in O i (four (direct_owners O)) ≡ (market O).holds (direct_owners O) i
  bundle_is i r = four_bundle (direct_owners O) O.share i (omega arith)

  -- worths are at most 9,999, and nobody pays more than its worth
  module _ (small : AtMost 9999 O.worths) where
    modest : (i s : ℕ) → worth_of O i s ≤ 9999
    modest i s = by_test (eqb s 0) (λ e. rw e (omega arith)) (λ e. rw e (small _))

    bound : (i : ℕ) → Among m 1 i →
        (number_in i (per_buyer m (direct_payment O)) ≤ worth_of O i (bundle_in O i (four (direct_owners O))))
        × (number_in i (per_buyer m (direct_payment O)) ≤ 9999)
    bound i r =
        let cheap = direct_cheap O good i r in
        rw (due_in i r, bundle_is i r) (cheap, omega (arith, cheap, modest i ((market O).holds (direct_owners O) i)))

    answer : Reckoned O (reckoned O)
    unfolding reckoned
    answer =
        let listed = lists.allocations_all in
        let short = four_short (direct_owners O) O.lots long in
        record {
          list = rw short ((listed (direct_owners O)).0 (direct_in O good));
          past = λ j h. four_past (direct_owners O) j (omega (arith, long));
          total = rw short (direct-total O good);
          most = λ a q. most_upper (total_of O) ((listed a).1 q);
          ties = λ a q e.
              rw short (direct_ties O good (ComesBefore ◌<◌) lists.allocations_ordered a ((listed a).1 q) e);
          payments =
              λ i r. (greatest_without O i, greatest i r, rw (due_in i r, bundle_is i r) (direct_pays O good i r));
          absent = λ i h. per_buyer_past m (direct_payment O) (i - 1) (omega arith);
          bounded = bound;
        }

  -- the settled sale
  sale_owners : (settled_sale O).owners ≡ four (direct_owners O)
  unfolding settled_sale
  sale_owners = ap four (same_owners O good)

  sale_payments : (settled_sale O).payments ≡ per_buyer m (direct_payment O)
  unfolding settled_sale
  sale_payments =
      per_buyer_same m (payment_for O (last_prices O)) (direct_payment O) few
      (λ k h. same_payment O good (suc k) (omega arith))

  exact : (i : ℕ) → Among m 1 i →
      number_in i (settled_sale O).payments + number_in i (settled_sale O).discounts
      ≡ price_at O (settled_sale O).prices i (bundle_in O i (settled_sale O).owners)
  unfolding settled_sale
  exact i r =
      rw (
        place_in m (payment_for O (last_prices O)) i few r,
        place_in m (discount_for O (last_prices O)) i few r,
        four_bundle _ O.share i (omega arith),
      ) (payment_exact O good i r)

-- of an accepted sheet
module _ (b : List ℕ) (accepted : (sheet_fault b).number ≡ 0) where
  abbrev O : Offer
  O = offer_of b

  good : Regular O
  good = regular b accepted

  lists : Allocated O
  lists = let w = sheet_of b in allocated w.buyers w.lots w.worths

  few : O.buyers ≤ 6
  few = (shape b accepted).few_buyers

  little : AtMost 9999 O.worths
  little = (shape b accepted).small

-- two accepted sheets that differ at most in i's worths
module _
    (b c : List ℕ) (yes : (sheet_fault b).number ≡ 0) (yes' : (sheet_fault c).number ≡ 0) (i : ℕ)
    (r : Among (sheet_of b).buyers 1 i) (alike : AlikeBut i (sheet_of b) (sheet_of c)) where
  -- the second has the first's buyers and lots, and other worths
  other : reworth (offer_of b) (sheet_of c).worths ≡ offer_of c
  other = rw (alike.buyers, alike.lots) refl

  abbrev Gain : Offer → Type 0
  Gain O' =
      let O = offer_of b in
      worth_of O i ((market O).holds (direct_owners O') i) + direct_payment O i
      ≤ worth_of O i ((market O).holds (direct_owners O) i) + direct_payment O' i

  gained : Gain (offer_of c)
  gained =
      subst Gain other
      (no_gain (offer_of b) (sheet_of c).worths (good b yes) (subst Regular (sym other) (good c yes')) i r
      (λ j q n s l. alike.others j s q n l))

  -- answers that have the direct way's owners and payments
  pub no_gain_by : (owners payments owners' payments' : List ℕ) →
      owners ≡ four (direct_owners (offer_of b)) →
      payments ≡ per_buyer (sheet_of b).buyers (direct_payment (offer_of b)) →
      owners' ≡ four (direct_owners (offer_of c)) →
      payments' ≡ per_buyer (sheet_of c).buyers (direct_payment (offer_of c)) →
      NoGain (offer_of b) i owners payments owners' payments'
  no_gain_by owners payments owners' payments' eo ep eo' ep' =
      let there : Among (sheet_of c).buyers 1 i = omega (arith, alike.buyers) in
      let share = (offer_of b).share in
      rw (
        eo,
        ep,
        eo',
        ep',
        four_bundle (direct_owners (offer_of b)) share i (omega arith),
        four_bundle (direct_owners (offer_of c)) share i (omega arith),
        due_in (offer_of b) (good b yes) (lists b yes) (few b yes) i r,
        due_in (offer_of c) (good c yes') (lists c yes') (few c yes') i there,
      ) gained

-- an answer that accepts has the direct way's owners and payments
module _ (b o o' : List ℕ) (r : Sale) (says : SaleSays b o o' r) (z : r.number ≡ 0) where
  sale_accepted : (sheet_fault b).number ≡ 0
  sale_accepted = (sale_open b o o' r says z).accepted

  abbrev sold : Sale
  sold = settled_sale (offer_of b)

  sale_is : r ≡ sold
  sale_is = (sale_open b o o' r says z).answer

  owners_are : r.owners ≡ four (direct_owners (offer_of b))
  owners_are =
      let y = sale_accepted in
      ap (λ (s : Sale). s.owners) sale_is ∙ sale_owners (offer_of b) (good b y) (lists b y) (few b y)

  payments_are : r.payments ≡ per_buyer (sheet_of b).buyers (direct_payment (offer_of b))
  payments_are =
      let y = sale_accepted in
      ap (λ (s : Sale). s.payments) sale_is ∙ sale_payments (offer_of b) (good b y) (lists b y) (few b y)

  paid_exactly : (i : ℕ) → Among (sheet_of b).buyers 1 i →
      number_in i r.payments + number_in i r.discounts
      ≡ price_at (offer_of b) r.prices i (bundle_in (offer_of b) i r.owners)
  paid_exactly i h = let y = sale_accepted in rw sale_is (exact (offer_of b) (good b y) (lists b y) (few b y) i h)

  paid_little : (i : ℕ) → Among (sheet_of b).buyers 1 i →
      (number_in i r.payments ≤ worth_of (offer_of b) i (bundle_in (offer_of b) i r.owners))
      × (number_in i r.payments ≤ 9999)
  paid_little i h =
      let y = sale_accepted in
      rw (owners_are, payments_are) (bound (offer_of b) (good b y) (lists b y) (few b y) (little b y) i h)

module _ (b : List ℕ) (d : Direct) (e : d ≡ direct_answer b) (z : d.number ≡ 0) where
  direct_accepted : (sheet_fault b).number ≡ 0
  direct_accepted = (direct_open b d e z).0

  direct_owners_lem : d.owners ≡ four (direct_owners (offer_of b))
  unfolding reckoned
  direct_owners_lem = ap (λ (s : Direct). s.owners) (direct_open b d e z).1

  direct_payments : d.payments ≡ per_buyer (sheet_of b).buyers (direct_payment (offer_of b))
  unfolding reckoned
  direct_payments = ap (λ (s : Direct). s.payments) (direct_open b d e z).1

  direct_answer_lem : Reckoned (offer_of b) d
  direct_answer_lem =
      let y = direct_accepted in
      rw (direct_open b d e z).1 (answer (offer_of b) (good b y) (lists b y) (few b y) (little b y))

pub outcomes_hold : Outcomes
outcomes_hold =
    record {
      alike = λ b o o' r d says e z.
          let none = direct-number b d e ∙ sale_accepted b o o' r says z in (
            none,
            owners_are b o o' r says z ∙ sym (direct_owners_lem b d e none),
            payments_are b o o' r says z ∙ sym (direct_payments b d e none),
          );
      reckoned = direct_answer_lem;
      no_gain_sale = λ b o o' r c q q' s says says' z z' i h alike.
          no_gain_by b c (sale_accepted b o o' r says z) (sale_accepted c q q' s says' z') i h alike r.owners
          r.payments s.owners s.payments (owners_are b o o' r says z) (payments_are b o o' r says z)
          (owners_are c q q' s says' z') (payments_are c q q' s says' z');
      no_gain_direct = λ b d c e eb ec z z' i h alike.
          no_gain_by b c (direct_accepted b d eb z) (direct_accepted c e ec z') i h alike d.owners d.payments
          e.owners e.payments (direct_owners_lem b d eb z) (direct_payments b d eb z) (direct_owners_lem c e ec z')
          (direct_payments c e ec z');
      exact_payment = paid_exactly;
      payment_bound = paid_little;
    }
