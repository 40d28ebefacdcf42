-- The ways out of a sale: a sheet that is refused, a record that is too short, and the settled sale.
use mathlib.Core.Path.{◌≡◌, refl, sym, ap, subst, ◌∙◌}
use mathlib.Core.Bool.{true, false}
use mathlib.Core.List.{List}
use Prim.Native.Nat.{ℕ, ◌-◌, ◌^◌, ◌≤◌, ◌<◌}
use native.Mathlib.Omega.{arith}
use lib.Dec.{leb}
use lib.ListN.{length, replicate}
use lib.Pow.{pow_mono}
use borrow.Author.Tests.{le-leb, lt-leb}
use Rattle.theory.specs.Lists.{over}
use Rattle.theory.proofs.Lists.{zeros-at}
use Rattle.numbers.proofs.Numbers.{pow_small}
use Rattle.owners.proofs.Singles.{sum_small}
use Rattle.owners.proofs.Sales.{begins}
use Rattle.closing.specs.declared.Closing.{Closing}
use Rattle.closing.specs.Closings.{sale_closing}
use Rattle.rounds.specs.Rounds.{Opens, OwnPrices, Sold}
use Rattle.std.specs.Prelude.{Ok, Err}
use Rattle.sheet.specs.declared.LotSheet.{LotSheet}
use Rattle.sheet.specs.declared.Refusal.{Refusal}
use Rattle.sheet.specs.declared.Worths.{Worths}
use Rattle.sheet.specs.Sheets.{Sheet, as_sheet, sheet_of}
use Rattle.sheet.specs.Questions.{fault}
use Rattle.sheet.specs.Refusals.{fault_of}
use Rattle.sheet.specs.Answers.{read_as, worths_read}
use Rattle.reading.proofs.Reading.{read_accepted}
use Rattle.reading.proofs.Told.{refused_fault, refused_sheet_no, accepted_sheet_yes, accepted_sheet}
use Rattle.offers.specs.Offers.{Offer, lots_among, lots_of, offer_of, layout, worth_of, the_auction}
use Rattle.offers.specs.Rounds.{round_limit, start_prices, sets_from, sale_sets, last_prices}
use Rattle.offers.specs.Claims.{Regular}
use Rattle.offers.proofs.Lots.{lots_regular, shape, topped}
use Rattle.lists.specs.Words.{lot_words, Lent}
use Rattle.lists.proofs.Packed.{lots_packed, lots_lent}
use Rattle.totals.specs.Totals.{limit_by}
use Rattle.totals.proofs.Listed.{limit_found}
use Rattle.sale.specs.declared.Sale.{Sale}
use Rattle.sale.specs.Answers.{refused_sale, settled_sale, sale_answer, sale_record, SaleSays}
use Rattle.selling.specs.Selling.{sold_by, Sells}

-- the lots are an offer that the theory is about, and question 9's sum is small
module _ {m n : ℕ} {ws : List ℕ} (sells : Sells m n ws) where
  pub sells_regular : Regular (lots_among m n ws)
  sells_regular =
      lots_regular m n ws sells.few_buyers sells.few_lots (λ k. omega (arith, sells.small k)) sells.topped

  pub rounds-ask : (f all : ℕ) (o : List ℕ) → f ≡ round_limit (lots_among m n ws) → f ≤ length o → all ≡ 2 ^ n →
      Opens m m all ws (replicate 96 0) f o
  rounds-ask f all o ef room bundles =
      record {
        few = sells.few_buyers;
        judged = omega arith;
        two = omega (arith, pow_mono {i = 1} {j = n} sells.some_lots);
        short = omega (arith, pow_small n sells.few_lots);
        worths = sells.worths;
        start = refl;
        small = sells.small;
        room = room;
        most = 0;
        low = λ k. omega (arith, zeros-at 96 k);
        rise = omega (arith, sum_small m (λ _. 2 ^ n - 1) sells.few_buyers ws sells.small);
      }

  -- a sale's first prices are those of the worths of all lots
  pub starts_own : OwnPrices (lots_among m n ws) (replicate 96 0)
  starts_own =
      let O = lots_among m n ws in (
        _,
        begins (the_auction O) (layout O) O.bundles m O.lists sells_regular.setting (worth_of O)
            sells_regular.worths,
      )

-- the rounds and the closing make up the settled sale
pub sold_settled : (m n : ℕ) (ws l o ps o' : List ℕ) (f all k : ℕ) → Sells m n ws → l ≡ lot_words m n → all ≡ 2 ^ n →
    f ≡ round_limit (lots_among m n ws) →
    ((O : Offer) → Lent O l ws 1 m all → OwnPrices O (replicate 96 0) → Sold O m (replicate 96 0) f o ps o' k) →
    (c : Closing) → ((O : Offer) → Lent O l ws 1 m all → c ≡ sale_closing O ps) →
    (a : Sale) → a ≡ sold_by m n k ps c →
    (a ≡ settled_sale (lots_among m n ws)) × (o' ≡ over (sale_sets (lots_among m n ws)) o)
unfolding settled_sale start_prices sale_sets last_prices
sold_settled m n ws l o ps o' f all k sells words bundles ef sells_so c closes a ea =
    let O = lots_among m n ws in
    let lent = lots_lent m n l ws all sells.few_buyers sells.few_lots (sells_regular sells) words bundles in
    let sold = sells_so O lent (starts_own sells) in (
      rw (ea, closes O lent, sold.prices, sold.rounds, ef) refl,
      sold.bytes
          ∙ ap (λ f. over (sets_from O m (start_prices O) f) o) ef,
    )

module _ (b : List ℕ) (r : Refusal) (e : read_as (Err r) ≡ worths_read b) where
  pub sale_refused : (o : List ℕ) → (s : Sale) →
      s ≡ refused_sale (fault_of r) → SaleSays b o o s
  unfolding sale_answer sale_record
  sale_refused o s q =
      let no = refused_sheet_no b r e in
      record { answer = rw (no, no) (q ∙ ap refused_sale (refused_fault b r e)); bytes = rw (no, no) refl }

-- what is asked of a sheet that is accepted
module _ (b : List ℕ) (r : Worths) (e : r ≡ worths_read b) where
  module _ (z : r.number ≡ 0) where
    pub asked : Sells r.buyers r.lots r.worths
    asked =
        let told = read_accepted b r e z in
        let read : as_sheet r.buyers r.lots r.worths ≡ sheet_of b = rw (told.buyers, told.lots, told.worths) refl in
        let s = shape b told.none in
        subst (λ (w : Sheet). Sells w.buyers w.lots w.worths) (sym read)
        (record {
          few_buyers = s.few_buyers;
          some_lots = s.some_lots;
          few_lots = s.few_lots;
          worths = s.long;
          small = s.small;
          topped = topped b told.none;
        })

module _ (b : List ℕ) (t : LotSheet) (e : read_as (Ok t) ≡ worths_read b) where
  abbrev O : Offer
  O = lots_among t.size.buyers t.size.lots t.worths

  pub same : O ≡ offer_of b
  same = ap lots_of (accepted_sheet b t e)

  pub asked_sheet : Sells t.size.buyers t.size.lots t.worths
  asked_sheet = asked b (read_as (Ok t)) e refl

  -- l is question 9's sum as it was reckoned
  module _ (l : ℕ) (el : l ≡ limit_by 1 t.size.buyers (2 ^ t.size.lots) t.worths) where
    pub limit_is : l ≡ round_limit O
    limit_is =
        el ∙ limit_found O (lots_packed t.size.buyers t.size.lots t.worths asked_sheet.few_buyers asked_sheet.few_lots)

    same_limit : l ≡ round_limit (offer_of b)
    same_limit = limit_is ∙ ap round_limit same

    module _ (o : List ℕ) where
      pub record_short : length o < l → (s : Sale) → s ≡ refused_sale (fault 9 0) → SaleSays b o o s
      unfolding sale_answer sale_record
      record_short h s q =
          let yes = accepted_sheet_yes b t e in
          let no_room : leb (round_limit (offer_of b)) (length o) ≡ false =
          lt-leb (round_limit (offer_of b)) (length o) (omega (arith, same_limit)) in
          record { answer = rw (yes, no_room) q; bytes = rw (yes, no_room) refl }

      module _ (room : l ≤ length o) where
        enough : leb (round_limit (offer_of b)) (length o) ≡ true
        enough = le-leb (round_limit (offer_of b)) (length o) (omega (arith, same_limit))

        pub sale_settled : (a : Sale) (o' : List ℕ) → (a ≡ settled_sale O) × (o' ≡ over (sale_sets O) o) →
            SaleSays b o o' a
        unfolding sale_answer sale_record
        sale_settled a o' (ea, eo) =
            let yes = accepted_sheet_yes b t e in
            record {
              answer = rw (yes, enough) (ea ∙ ap settled_sale same);
              bytes = rw (yes, enough) (eo ∙ ap (λ O. over (sale_sets O) o) same);
            }
