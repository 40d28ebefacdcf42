-- Every number of a sale's answer has at most six digits (`prints_fit`), and a record of 59,994 bytes is long enough
-- for every sale (`sale_asked`, `never_nine`).
use mathlib.Core.Path.{◌≡◌, refl, sym, ap, subst, ◌∙◌}
use mathlib.Core.Logic.{◌≢◌, inl, inr}
use mathlib.Core.Bool.{Bool}
use mathlib.Core.List.{List}
use Prim.Native.Nat.{ℕ, suc, ◌-◌, ◌^◌, ◌≤◌, ◌<◌}
use native.Mathlib.Omega.{arith}
use native.Mathlib.Decide.{dec_lt, dec_le, ℕ_discrete}
use lib.Dec.{leb}
use lib.ListN.{length, take, get_or, length-replicate}
use lib.Seq.{get_or-take}
use borrow.Author.Tests.{le-leb}
use Rattle.theory.specs.Sums.{Among}
use Rattle.theory.specs.Markets.{total}
use Rattle.theory.proofs.Sums.{sum_mono, sum_const}
use Rattle.theory.proofs.Lists.{most_bound, at_in, zeros-at}
use Rattle.owners.specs.Owners.{zero_first}
use Rattle.owners.specs.Prices.{buyer_rows, price}
use Rattle.owners.proofs.Owners.{allocation_from}
use Rattle.owners.proofs.Singles.{singles_below, worth_small, sum_small}
use Rattle.sheet.specs.Sheets.{Sheet, sheet_of}
use Rattle.sheet.specs.declared.Fault.{Fault}
use Rattle.sheet.specs.Questions.{fault, sheet_fault}
use Rattle.sheet.proofs.Theorems.{refusal_range}
use Rattle.sheet.proofs.Long.{most_bytes}
use Rattle.sheet.proofs.Forms.{asked_first, asked_yes}
use Rattle.offers.specs.Offers.{Offer, offer_of, market, price_at, revenue}
use Rattle.offers.specs.Rounds.{round_limit, start_prices, sale_sets, last_prices, discount_for, payment_for}
use Rattle.offers.specs.Places.{per_buyer}
use Rattle.offers.proofs.Places.{per_buyer-at, per_buyer_past}
use Rattle.sale.specs.declared.Sale.{Sale}
use Rattle.sale.specs.Answers.{sale_fault, refused_sale, settled_sale, SaleSays}
use Rattle.offers.proofs.Lots.{shape, regular}
use Rattle.offers.proofs.Theorems as sales
use Rattle.sale.proofs.Opening.{sale_open, sale_closed}
use Rattle.direct.specs.Answers.{direct_answer}
use Rattle.promises.proofs.First.{refusals_hold}
use Rattle.promises.proofs.Third.{outcomes_hold}
use Rattle.printed.specs.Printed.{Printable}

-- six places, each below a bound
places_small : (c m : ℕ) (f : ℕ → ℕ) → m ≤ 6 → 0 < c → ((k : ℕ) → k < m → f (suc k) < c) →
    (k : ℕ) → get_or (per_buyer m f) k 0 < c
places_small c m f few some h k =
    elim (dec_lt k m) [
      | yes g ↦ rw (per_buyer-at m f k few g) (h k g)
      | no g ↦ rw
          (per_buyer_past m f k (omega arith)) some
    ]

-- a settled sale
module _ (b : List ℕ) (accepted : (sheet_fault b).number ≡ 0) where
  abbrev w : Sheet
  w = sheet_of b

  abbrev O : Offer
  O = offer_of b

  abbrev ps : List ℕ
  ps = last_prices O

  cheap : (i s : ℕ) → Among w.buyers 1 i → s < 2 ^ w.lots → price_at O ps i s ≤ 9999
  cheap i s r h =
      let low = sales.price_bound O (regular b accepted) (length (sale_sets O)) (omega arith) i s r h in
      let same = ap (λ x. price_at O x i s) (sales.ascending O (regular b accepted)).to_last in
      omega (arith, low, same, worth_small w.worths 9999 i s (shape b accepted).small)

  revenue_small : revenue O ps 0 ≤ 59994
  revenue_small =
      most_bound (total (market O) (price_at O ps)) 59994 O.lists
      (λ a m. omega (
        arith,
        sum_const w.buyers 1 9999,
        (shape b accepted).few_buyers,
        sum_mono w.buyers 1 (λ i. price_at O ps i ((market O).holds a i)) (λ _. 9999)
            (λ i r. cheap i ((market O).holds a i) r
            (singles_below w.lots i a (allocation_from (zero_first w.buyers) w.lots m).0)),
      ))

  discount_small : (k : ℕ) → k < w.buyers → discount_for O ps (suc k) < 1000000
  discount_small k h =
      omega (arith, sales.exact_discount O (regular b accepted) ps (suc k) (omega arith), revenue_small)

  rounds_small : length (sale_sets O) < 1000000
  rounds_small =
      omega (
        arith,
        (sales.ascending O (regular b accepted)).few_rounds,
        sum_small w.buyers (λ _. 2 ^ w.lots - 1) (shape b accepted).few_buyers w.worths
            (shape b accepted).small,
      )

  payment_small : (o o' : List ℕ) (r : Sale) → SaleSays b o o' r → r.number ≡ 0 → r ≡ settled_sale O → (k : ℕ) →
      k < w.buyers → payment_for O ps (suc k) < 1000000
  unfolding settled_sale
  payment_small o o' r says z e k h =
      let j : suc k - 1 ≡ k = omega arith in
      let low = (outcomes_hold.payment_bound b o o' r says z (suc k) (omega arith)).1 in
      let same =
      ap (λ i. get_or r.payments i 0) j ∙ ap (λ (s : Sale). get_or s.payments k 0) e
      ∙ per_buyer-at w.buyers (payment_for O ps) k (shape b accepted).few_buyers h in
      omega (arith, low, same)

-- an owner is one of the buyers, or nobody
owner_small : (b o o' : List ℕ) (r : Sale) → SaleSays b o o' r → r.number ≡ 0 → (sheet_of b).buyers ≤ 6 → (j : ℕ) →
    get_or r.owners j 0 < 1000000
owner_small b o o' r says z few j =
    let w = sheet_of b in
    let d = direct_answer b in
    let same = outcomes_hold.alike b o o' r d says refl z in
    let told = outcomes_hold.reckoned b d refl same.0 in
    let (long, owns) = told.list in
    rw same.1
    (elim (dec_lt j w.lots) [
      | yes h ↦
          let there = get_or-take w.lots d.owners j 0 h in
          let os = take w.lots d.owners in
          omega (arith, there, owns (get_or os j 0) (at_in 0 os j (omega (arith, long))))
      | no h ↦ omega (arith, told.past j (omega arith))
    ])

last-table : (b : List ℕ) → length (last_prices (offer_of b)) ≡ 96
unfolding start_prices last_prices
last-table b =
    let O = offer_of b in sales.last_long O O.buyers (start_prices O) (round_limit O) (length-replicate {A = ℕ} 96 0)

settled_fits : (b o o' : List ℕ) (r : Sale) → SaleSays b o o' r → r.number ≡ 0 → Printable r
unfolding settled_sale
settled_fits b o o' r says z =
    let open' = sale_open b o o' r says z in
    let e = open'.answer in
    let yes' = open'.accepted in
    let w = sheet_of b in
    record {
      number = omega arith;
      place = omega (arith, ap (λ (s : Sale). s.place) e);
      buyers = omega (arith, ap (λ (s : Sale). s.buyers) e, (shape b yes').few_buyers);
      lots = omega (arith, ap (λ (s : Sale). s.lots) e, (shape b yes').few_lots);
      rounds = omega (arith, ap (λ (s : Sale). s.rounds) e, rounds_small b yes');
      owners = owner_small b o o' r says z (shape b yes').few_buyers;
      table = omega (arith, ap (λ (s : Sale). length s.prices) e, last-table b);
      prices =
          subst (λ (x : Sale). (i s : ℕ) → Among x.buyers 1 i → s < 2 ^ x.lots →
          price (buyer_rows 6) x.prices i s < 1000000) (sym e)
          (λ i s a h. omega (arith, cheap b yes' i s a h));
      discounts = λ k. rw e
          (places_small 1000000 w.buyers (discount_for (offer_of b) (last_prices (offer_of b)))
          (shape b yes').few_buyers
          (omega arith) (discount_small b yes') k);
      payments = λ k. rw e
          (places_small 1000000 w.buyers (payment_for (offer_of b) (last_prices (offer_of b))) (shape b yes').few_buyers
          (omega arith) (payment_small b yes' o o' r says z e) k);
    }

-- a refused sale's place lies in a sheet of at most 559 bytes
refused_fits : (b o o' : List ℕ) (r : Sale) → SaleSays b o o' r → r.number ≢ 0 → Printable r
unfolding refused_sale
refused_fits b o o' r says n =
    let e = (sale_closed b o o' r says n).0 in
    let told = refusals_hold.sells b o o' r says in
    record {
      number =
          elim told.range [
            | inl l ↦ omega arith
            | inr (_, inl (_, nine, _)) ↦ omega arith
            | inr (_, inr (_, none)) ↦ absurd none
          ];
      place =
          elim (dec_le 6 r.number) [
            | no l ↦ omega (arith, told.no_place (omega arith))
            | yes l ↦
                elim (dec_le r.number 8) [
                  | no g ↦
                      elim told.range [
                        | inl q ↦ absurd (g q)
                        | inr (_, inl (_, _, zero)) ↦ omega arith
                        | inr (_, inr (_, none)) ↦ absurd none
                      ]
                  | yes g ↦
                      let yes_to = ((told.first_no r.number (omega arith) g).0 refl).0 in
                      let (some, few) = yes_to 3 (omega arith) in
                      let (some', short) = yes_to 4 (omega arith) in
                      omega (
                        arith,
                        (told.a_place l g).1,
                        yes_to 5 (omega arith),
                        most_bytes (sheet_of b).buyers (sheet_of b).lots few short,
                      )
                ]
          ];
      buyers = omega (arith, ap (λ (s : Sale). s.buyers) e);
      lots = omega (arith, ap (λ (s : Sale). s.lots) e);
      rounds = omega (arith, ap (λ (s : Sale). s.rounds) e);
      owners = λ j. omega (arith, ap (λ (s : Sale). get_or s.owners j 0) e, zeros-at 4 j);
      table = omega (arith, ap (λ (s : Sale). length s.prices) e, length-replicate {A = ℕ} 96 0);
      prices = λ i s a h. absurd (omega (arith, a, ap (λ (s : Sale). s.buyers) e));
      discounts = λ k. omega (arith, ap (λ (s : Sale). get_or s.discounts k 0) e, zeros-at 6 k);
      payments = λ k. omega (arith, ap (λ (s : Sale). get_or s.payments k 0) e, zeros-at 6 k);
    }

pub prints_fit : (b o o' : List ℕ) (r : Sale) → SaleSays b o o' r → Printable r
prints_fit b o o' r says =
    elim (ℕ_discrete r.number 0) [ yes z ↦ settled_fits b o o' r says z | no n ↦ refused_fits b o o' r says n ]

-- no sheet asks for more than 59,994 bytes of record
pub limit_low : (b : List ℕ) → (sheet_fault b).number ≡ 0 → round_limit (offer_of b) ≤ 59994
limit_low b z =
    sum_small (sheet_of b).buyers (λ _. 2 ^ (sheet_of b).lots - 1) (shape b z).few_buyers (sheet_of b).worths
    (shape b z).small

-- with room for 59,994 rounds question 9 is answered yes
module _ (b : List ℕ) (room : ℕ) (long : 59994 ≤ room) where
  abbrev x : Bool
  x = leb (round_limit (offer_of b)) room

  pub sale_asked : (sheet_fault b).number ≡ 0 → sale_fault b room ≡ fault 0 0
  sale_asked z = asked_yes 9 x (sheet_fault b) z (le-leb (round_limit (offer_of b)) room (omega (arith, limit_low b z)))

  pub sale_first : (sheet_fault b).number ≢ 0 → sale_fault b room ≡ sheet_fault b
  sale_first n = asked_first 9 x (sheet_fault b) n

  pub never_nine : (sale_fault b room).number ≢ 9
  never_nine e =
      elim (ℕ_discrete (sheet_fault b).number 0) [
        | yes z ↦ omega (arith, ap (λ (g : Fault). g.number) (sale_asked z))
        | no n ↦ omega (arith, ap (λ (g : Fault). g.number) (sale_first n), refusal_range b)
      ]
