-- What is on offer, and the words of sections 1 and 4 of the rules for it: worths, allocations, economies, demand,
-- fitting allocations and undersupplied sets. An `Offer` is what change requests vary; that of a lot sheet is
-- `lots_of`. Prices are a list, sixteen to a bidder. Payoffs are kept 65,535 higher, so that none is negative.
use Rattle.std.specs.Prelude.{◌≡◌, Bool, List, ℕ, zero, suc, ◌-◌, ◌^◌, eqb}
use Rattle.theory.specs.Sums.{pick, Among}
use Rattle.theory.specs.Lists.{most, keep}
use Rattle.theory.specs.Markets.{Market, Table, total}
use Rattle.theory.specs.Auction as auction
use Rattle.owners.specs.Owners as owners
use Rattle.owners.specs.Prices as prices
use Rattle.sheet.specs.Sheets.{Sheet, sheet_of}

-- An auction's instance: the bidders are `low` to `buyers` (low is 1, and 0 where a house takes part); an allocation is
-- a list of owners, one for each of the lots, and `share` is what a lot adds to the number of its owner's bundle;
-- `lists` are all allocations, in order; worths (valuations) are a table of sixteen to a bidder.
pub record Offer : Type 0 where
  pub buyers : ℕ
  pub low : ℕ
  pub lots : ℕ
  pub bundles : ℕ
  pub share : ℕ → ℕ
  pub lists : List (List ℕ)
  pub worths : List ℕ

-- n lots, each to one of m buyers or to nobody (rules 1.1 to 1.10); those of a sheet, and of its bytes
abbrev pub lots_among : ℕ → ℕ → List ℕ → Offer
lots_among m n ws =
    record {
      buyers = m;
      low = 1;
      lots = n;
      bundles = 2 ^ n;
      share = owners.single;
      lists = owners.allocations (owners.zero_first m) n;
      worths = ws;
    }

abbrev pub lots_of : Sheet → Offer
lots_of w = lots_among w.buyers w.lots w.worths

abbrev pub offer_of : List ℕ → Offer
offer_of b = lots_of (sheet_of b)

module _ (O : Offer) where
  -- who owns what
  abbrev pub market : Market (List ℕ)
  market =
      record {
        many = prices.bidders O.low O.buyers;
        low = O.low;
        holds = λ a i. owners.bundle_from O.share 0 i a;
      }

  -- i is a bidder
  abbrev pub Bids : ℕ → Type 0
  Bids i = Among market.many O.low i

  -- each bidder's row in a table, and its bit in the number of a set (rules 1.6 and 4.9)
  abbrev pub layout : prices.Layout
  layout = prices.layout O.low O.buyers

  abbrev pub member : ℕ → ℕ → Bool
  member set i = prices.row_member layout set i

  -- the numbers of sets are of so many bits
  abbrev pub bits : ℕ
  bits = pick (eqb O.low 0) 7 O.buyers

  -- bidder i's worth of a bundle; that of the empty one is 0 (rule 1.4)
  abbrev pub worth_of : Table
  worth_of i s = prices.price layout O.worths i s

  -- its price (rules 1.5 and 1.6)
  abbrev pub price_at : List ℕ → Table
  price_at ps i s = prices.price layout ps i s

  -- the allocations without a bidder
  abbrev pub without : ℕ → List (List ℕ)
  without i = keep (owners.lacks i) O.lists

  -- rule 4.4: economy 0 has all bidders, and economy e all but buyer e
  abbrev pub economy : ℕ → List (List ℕ)
  economy zero = O.lists
  economy (suc e) = without (suc e)

  -- the auction with economies 0 to k (rule 4.4) and the numbers of sets (rule 4.9); and with all economies
  abbrev pub judged_in : ℕ → auction.Auction (List ℕ)
  judged_in k =
      record {
        market = market;
        economies = owners.economies k O.lists;
        member = member;
        sets = 2 ^ bits;
        within = λ s u. s ≡ u;
        top = O.bundles - 1;
      }

  abbrev pub the_auction : auction.Auction (List ℕ)
  the_auction = judged_in O.buyers

  module _ (ps : List ℕ) where
    -- a bidder's greatest payoff (rule 4.1), 65,535 higher
    abbrev pub best : ℕ → ℕ
    best i = prices.best layout O.bundles worth_of ps i

    abbrev pub quote : auction.Quote
    quote = prices.quote layout O.bundles worth_of ps

    -- rule 4.2: whether a bundle is demanded, and the demand set as one number
    abbrev pub demands : ℕ → ℕ → Bool
    demands i s = quote.wants i s

    abbrev pub demand_set : ℕ → ℕ
    demand_set i = prices.demand_set O.bundles quote i

    -- rule 4.3: whether a bidder has a positive payoff (is in B⁺)
    abbrev pub is_keen : ℕ → Bool
    is_keen i = quote.keen i

    -- rule 4.5: the most that an allocation of economy e brings
    abbrev pub revenue : ℕ → ℕ
    revenue e = most (total market (price_at ps)) (economy e)

    -- rule 4.6: whether it brings the revenue, and gives nobody what it does not demand (is in L*)
    abbrev pub fits : ℕ → List ℕ → Bool
    fits e a = auction.fits market quote (economy e) a

    -- rule 4.7: keen bidders whom in some economy, as far as they are present, no fitting allocation serves
    abbrev pub undersupplied : ℕ → Bool
    undersupplied set = auction.undersupplied market quote the_auction.economies (member set)

    -- rule 4.10: 1 more than the number of the lowest undersupplied set, 0 for none
    abbrev pub lowest : ℕ
    lowest = auction.chosen the_auction quote
