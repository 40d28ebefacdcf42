-- The rounds by coalition values are an offer's: what they did (`Done`) is what `Sold` says, for whatever offer the
-- words are of. Assumes what `Opens` says, own prices to start from, and a table of the values that the words give
-- (`Valued`).
use mathlib.Core.Path.{◌≡◌, sym, ap, subst, ◌∙◌}
use mathlib.Core.Bool.{Bool}
use mathlib.Core.List.{List}
use Prim.Native.Nat.{ℕ, ◌-◌, ◌^◌, ◌≤◌}
use native.Mathlib.Omega.{arith}
use lib.Dec.{eqb}
use lib.ListN.{length, get_or}
use Rattle.theory.specs.Lists.{most, over}
use Rattle.theory.specs.Markets.{Table}
use Rattle.theory.specs.Rounds.{choices, after}
use Rattle.theory.specs.Auction.{Auction}
use Rattle.theory.specs.Coalitions.{Values, holder, lowest_by}
use Rattle.theory.proofs.Sums.{sum_same}
use Rattle.theory.proofs.Tests.{by_test}
use Rattle.theory.proofs.Lists.{most_bound}
use Rattle.theory.proofs.Coalitions.{exact_values, values_same}
use Rattle.owners.specs.Owners.{member, number}
use Rattle.owners.specs.Prices.{entry, buyer_rows}
use Rattle.owners.specs.Sales.{sets, last_prices, limit}
use Rattle.owners.specs.Quick.{left, roster_in}
use Rattle.owners.specs.Singles.{worth_table, AtMost}
use Rattle.owners.proofs.Quick.{quick_rounds, quick_last, presents_are}
use Rattle.owners.proofs.Prices.{entry_row}
use Rattle.owners.proofs.Bits.{number_below, number_bit}
use Rattle.owners.proofs.Singles.{sum_small}
use Rattle.offers.specs.Offers.{Offer, market, worth_of, judged_in}
use Rattle.offers.specs.Rounds.{sets_from, prices_from}
use Rattle.offers.specs.Claims.{Regular}
use Rattle.offers.proofs.Economies.{judged_regular}
use Rattle.lists.specs.Words.{digit, words_of, Packed, Lent}
use Rattle.totals.specs.Totals.{word_holders, word_total, word_total_by}
use Rattle.totals.proofs.Listed.{value_found}
use Rattle.supply.specs.Supply.{shift, at}
use Rattle.rounds.specs.declared.Tables.{Tables}
use Rattle.rounds.specs.Rounds.{KeptAt, Opens, OwnPrices, Sold, lowest_at, step_at}
use Rattle.rounds.proofs.Going.{Going, Done}

-- the values that the words of all allocations give, and that they are small
abbrev pub Valued : ℕ → List ℕ → List ℕ → List ℕ → Type 0
Valued m ws list values = (k : ℕ) → get_or values k 0 ≡ most (word_total_by 1 m ws k) list

total_small : (m : ℕ) (ws : List ℕ) (w : ℕ) → m ≤ 6 → AtMost 9999 ws → word_total 1 m ws w ≤ 59994
total_small m ws w few h =
    omega (
      arith,
      sum_same m 1 (λ i. entry ws i (digit i w)) (λ i. worth_table ws i (digit i w))
          (λ i r. entry_row 1 6 i (omega arith) ws (digit i w)),
      sum_small m (λ i. digit i w) few ws h,
    )

pub valued_small : (m : ℕ) (ws list values : List ℕ) → m ≤ 6 → AtMost 9999 ws → Valued m ws list values →
    AtMost 59994 values
valued_small m ws list values few h valued k =
    omega (
      arith,
      valued k,
      most_bound (word_total_by 1 m ws k) 59994 list
          (λ w _. by_test (eqb (word_holders m w) k) (λ e. rw e (total_small m ws w few h)) (λ e. rw e (omega arith))),
    )

-- rounds that go on, by some table of the values, with what is kept at their prices
pub record Running (m l all : ℕ) (list ws start : List ℕ) (f c : ℕ) (o ps log : List ℕ) (n : ℕ)
    (k : Tables) : Type 0 where
  pub values : List ℕ
  pub valued : Valued m ws list values
  pub going : Going (lowest_at m l (all - 1) ws values) (step_at m all ws) f c start o ps log n
  pub kept : KeptAt m l (all - 1) ws values ps k

-- an offer to m buyers
module _ (m all n : ℕ) (share : ℕ → ℕ) (al : List (List ℕ)) (ws : List ℕ) where
  abbrev offer : Offer
  offer = record { buyers = m; low = 1; lots = n; bundles = all; share = share; lists = al; worths = ws }

  module _
      (few : m ≤ 6) (small : AtMost 9999 ws) (regular : Regular offer) (packed : Packed offer) (list : List ℕ)
      (words : list ≡ words_of offer) (values : List ℕ) (valued : Valued m ws list values) (l : ℕ) (judged : l ≤ m)
      (start : List ℕ) (own : OwnPrices offer start) (f : ℕ) where
    abbrev X : Auction (List ℕ)
    X = judged_in offer l

    abbrev v : Table
    v = worth_of offer

    -- the rounds by a roster
    abbrev choose_by : List (ℕ → Bool) → List ℕ → ℕ
    choose_by presents ps =
        lowest_by (record { many = m; low = 1; member = member; sets = 2 ^ m; presents = presents }) shift (at values)
        (left (buyer_rows m) (worth_table ws) (all - 1) ps)

    pub Agrees : List (ℕ → Bool) → Type 0
    Agrees presents =
        (choices (choose_by presents) (step_at m all ws) f start ≡ sets X (buyer_rows m) all v start f)
        × (after (step_at m all ws) start (choices (choose_by presents) (step_at m all ws) f start)
        ≡ last_prices X (buyer_rows m) all v start f)

    found : Values X v al (at values)
    found =
        values_same X v al (at values) _
        (λ k _. value_found offer packed list words ws k (get_or values k 0) (valued k))
        (exact_values X v (regular.some 0).1 (λ a. number m 1 (holder (market offer) a))
        (λ a k. (
          number_below m 1 (holder (market offer) a),
          λ i r. number_bit m 1 (holder (market offer) a) (i - 1) (omega arith)
              ∙ ap (holder (market offer) a) (omega arith),
        )))

    wide : limit X (buyer_rows m) all v ≤ shift
    wide = omega (arith, sum_small m (λ _. all - 1) few ws small)

    agrees : Agrees (roster_in m l).presents
    unfolding Agrees
    agrees =
        let (setting, worths) = judged_regular offer regular l judged in
        subst Agrees (presents_are al m l) (
          quick_rounds X (buyer_rows m) all m al setting v worths (at values) found shift wide start own.0 own.1 f,
          quick_last X (buyer_rows m) all m al setting v worths (at values) found shift wide start own.0 own.1 f,
        )

    pub sold_by_lem : {o ps' o' : List ℕ} {k : ℕ} →
        Done (lowest_at m l (all - 1) ws values) (step_at m all ws) f start o ps' o' k →
        Sold offer l start f o ps' o' k
    unfolding Agrees lowest_at sets_from prices_from
    sold_by_lem {o} done =
        record {
          prices = done.prices ∙ agrees.1;
          rounds = done.rounds ∙ ap length agrees.0;
          bytes = done.bytes ∙ ap (λ s. over s o) agrees.0;
        }

-- whatever offer the words are of
offer_is : {O : Offer} {list ws : List ℕ} {m all : ℕ} → Lent O list ws 1 m all →
    offer m all O.lots O.share O.lists ws ≡ O
offer_is {O} {ws = ws} {m} {all} lent =
    ap (λ m. offer m all O.lots O.share O.lists ws) lent.buyers
    ∙ ap (λ all. offer O.buyers all O.lots O.share O.lists ws) lent.bundles
    ∙ ap (offer O.buyers O.bundles O.lots O.share O.lists) lent.worths
    ∙ ap (λ low. record {
      buyers = O.buyers;
      low = low;
      lots = O.lots;
      bundles = O.bundles;
      share = O.share;
      lists = O.lists;
      worths = O.worths;
    }) lent.low

pub sold : {m l all f : ℕ} {ws start list o ps' o' : List ℕ} {k : ℕ} (values : List ℕ) →
    Opens m l all ws start f o →
    Valued m ws list values → Done (lowest_at m l (all - 1) ws values) (step_at m all ws) f start o ps' o' k →
    (O : Offer) → Lent O list ws 1 m all → OwnPrices O start → Sold O l start f o ps' o' k
sold {m} {l} {all} {f} {ws} {start} {list} {o} {ps'} {o'} {k} values opens valued done O lent own =
    let same = offer_is lent in
    let back : (P : Offer → Type 0) → P O → P (offer m all O.lots O.share O.lists ws) =
    λ P p. subst P (sym same) p in
    subst (λ O. Sold O l start f o ps' o' k) same
    (sold_by_lem m all O.lots O.share O.lists ws opens.few opens.small (back Regular lent.regular)
    (back Packed lent.packed) list (back (λ O. list ≡ words_of O) lent.words) values valued l opens.judged start
    (back (λ O. OwnPrices O start) own) f done)
