-- Table 3 of the paper, reckoned: three bidders and two lots. An allocation has the owners of the two lots, 0 for none.
-- The rounds, by the definition and by the coalitions' values; the allocation, discounts and payments, by prices and by
-- worths; and prices from outside at which the empty set is undersupplied.
use mathlib.Core.Path.{◌≡◌, refl}
use mathlib.Core.Bool.{false}
use mathlib.Core.List.{List, [], ◌∷◌}
use Prim.Native.Nat.{ℕ, ◌+◌, ◌-◌, ◌*◌, ◌/◌, ◌%◌, ◌^◌}
use lib.Dec.{eqb}
use lib.ListN.{get_or}
use Rattle.theory.specs.Sums.{when}
use Rattle.theory.specs.Lists.{keep, tabulate}
use Rattle.theory.specs.Rounds.{choices, after}
use Rattle.theory.specs.Markets.{Market, Table, worth_pay, discount, price_pay, asks}
use Rattle.theory.specs.Auction.{whole, lacking, Quote, closing, direct, own, Auction, chosen, start, round}
use Rattle.theory.specs.Auction.{rounds}
use Rattle.theory.specs.Coalitions.{coalition_value, roster_of, lowest_by}

abbrev Owners : Type 0
Owners = ℕ × ℕ

abbrev market : Market Owners
market = record { many = 3; low = 1; holds = λ a i. when (eqb a.0 i) 1 + when (eqb a.1 i) 2 }

abbrev all : List Owners
all = tabulate 16 0 (λ k. (k / 4, k % 4))

abbrev but : ℕ → List Owners
but i = keep (λ a. eqb (market.holds a i) 0) all

abbrev auction : Auction Owners
auction =
    record {
      market = market;
      economies = whole all ∷ lacking 1 (but 1) ∷ lacking 2 (but 2) ∷ lacking 3 (but 3) ∷ [];
      member = λ n i. eqb (n / 2 ^ (i - 1) % 2) 1;
      sets = 8;
      within = λ s u. s ≡ u;
      top = 3;
    }

abbrev worths : Table
worths i s = get_or (0 ∷ 3 ∷ 0 ∷ 3 ∷ 0 ∷ 0 ∷ 6 ∷ 6 ∷ 0 ∷ 0 ∷ 2 ∷ 4 ∷ []) (4 * (i - 1) + s) 0

-- the sets of the rounds
abbrev sets : List ℕ
sets = 5 ∷ 2 ∷ 4 ∷ 1 ∷ 2 ∷ 4 ∷ 2 ∷ 4 ∷ 2 ∷ []

example-rounds : rounds auction worths (start auction worths) 13 ≡ sets
example-rounds = refl

-- the last payoffs
abbrev payoffs : ℕ → ℕ
payoffs i = get_or (1 ∷ 2 ∷ 0 ∷ []) (i - 1) 0

example-last : tabulate 3 1 (after (round auction) (start auction worths) sets) ≡ tabulate 3 1 payoffs
example-last = refl

example_settled : chosen auction (own worths payoffs) ≡ 0
example_settled = refl

example-closing : closing market (own worths payoffs) all (0, 0) ≡ (1, 2)
example-closing = refl

example-direct : direct market worths all (0, 0) ≡ (1, 2)
example-direct = refl

example_discounts : tabulate 3 1 (λ i. discount market (asks worths payoffs) all (but i)) ≡ 2 ∷ 2 ∷ 0 ∷ []
example_discounts = refl

example_pays : tabulate 3 1 (λ i. price_pay market (asks worths payoffs) i all (but i) (1, 2)) ≡ 0 ∷ 2 ∷ 0 ∷ []
example_pays = refl

example_direct_pays : tabulate 3 1 (λ i. worth_pay market worths i all (but i) (1, 2)) ≡ 0 ∷ 2 ∷ 0 ∷ []
example_direct_pays = refl

-- what each set of bidders is worth
abbrev values : List ℕ
values = 0 ∷ 3 ∷ 6 ∷ 9 ∷ 4 ∷ 5 ∷ 6 ∷ 9 ∷ []

example_values : tabulate 8 0 (λ n. coalition_value market worths all (auction.member n)) ≡ values
example_values = refl

example_rounds_by :
    choices (lowest_by (roster_of auction) 13 (λ n. get_or values n 0)) (round auction) 13 (start auction worths) ≡ sets
example_rounds_by = refl

-- a lot has a price that nobody would give: nothing fits, and the empty set, whose number is 0, is undersupplied
abbrev outside : Quote
outside = record { prices = λ i s. s; wants = λ i s. eqb s 0; keen = λ i. false }

example_outside : chosen auction outside ≡ 1
example_outside = refl
