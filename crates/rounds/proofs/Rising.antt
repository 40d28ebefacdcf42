-- Equal payoffs give equal answers (`chosen_at`, `stepped_at`), a raise adds at most 1 (`step_small`), and it takes 1
-- from what each member has left (`left_step`).
use mathlib.Core.Path.{◌≡◌, ap, ◌∙◌}
use mathlib.Core.Bool.{Bool, and-true}
use mathlib.Core.List.{List}
use Prim.Native.Nat.{ℕ, suc, ◌+◌, ◌-◌, ◌*◌, ◌/◌, ◌≤◌, ◌<◌}
use native.Mathlib.Nat.{zero-add}
use native.Mathlib.Omega.{arith}
use lib.Dec.{ltb}
use lib.ListN.{get_or}
use borrow.Author.Tests.{ltb-true, lt-ltb, le-leb, ne_eqb}
use Rattle.theory.specs.Sums.{when, Among}
use Rattle.theory.specs.Markets.{Table, lower}
use Rattle.theory.specs.Coalitions.{lowest_by}
use Rattle.theory.proofs.Tests.{by_test}
use Rattle.theory.proofs.Lists.{tabulate-at, tabulate_same}
use Rattle.theory.proofs.Coalitions.{lowest_same}
use Rattle.owners.specs.Owners.{member}
use Rattle.owners.specs.Prices.{buyer_rows}
use Rattle.owners.specs.Quick.{left, rising, risen_at, raised_by, roster_in}
use Rattle.owners.specs.Singles.{worth_table, AtMost}
use Rattle.supply.specs.Supply.{shift, at, payoff_at}
use Rattle.raising.proofs.Rising.{raised_small}
use Rattle.rounds.specs.Rounds.{lowest_at, step_at}

-- payoffs that are the same for the buyers
module _ (m top : ℕ) (ws ps r : List ℕ)
    (same : (i : ℕ) → 1 ≤ i → i ≤ m → payoff_at r i ≡ left (buyer_rows 6) (worth_table ws) top ps i) where
  payoffs_same : (i : ℕ) → Among m 1 i → payoff_at r i ≡ left (buyer_rows 6) (worth_table ws) top ps i
  payoffs_same i q = same i (omega arith) (omega arith)

  pub chosen_at : (l : ℕ) (values : List ℕ) (x : ℕ) → x ≡ lowest_by (roster_in m l) shift (at values) (payoff_at r) → x
      ≡ lowest_at m l top ws values ps
  unfolding lowest_at
  chosen_at l values x e =
      e ∙ lowest_same (roster_in m l) shift (at values) (payoff_at r)
      (left (buyer_rows m) (worth_table ws) top ps) payoffs_same

  rising_same : (all x j s : ℕ) →
      rising (buyer_rows m) all (worth_table ws) (member x) (payoff_at r) j s
      ≡ rising (buyer_rows m) all (worth_table ws) (member x) (left (buyer_rows m) (worth_table ws) top ps) j s
  rising_same all x j s =
      by_test (ltb j m) (λ e. rw (e, payoffs_same (suc j) (omega (arith, ltb-true j m e)))) (λ e. rw e)

  pub stepped_at : (all x : ℕ) (qs : List ℕ) →
      qs ≡ raised_by (buyer_rows m) all (worth_table ws) (member x) (payoff_at r) ps →
      qs ≡ raised_by (buyer_rows m) all (worth_table ws) (member x) (left (buyer_rows m) (worth_table ws) top ps) ps
  unfolding raised_by
  stepped_at all x qs e =
      e
      ∙ tabulate_same 96 0
      (risen_at (buyer_rows m) all (worth_table ws) (member x) (payoff_at r) ps)
      (risen_at (buyer_rows m) all (worth_table ws) (member x) (left (buyer_rows m) (worth_table ws) top ps) ps)
      (λ k _. ap (λ b. get_or ps k 0 + when b 1) (rising_same all x (k / 16) (k - 16 * (k / 16))))

-- a raise adds at most 1
pub step_small : (m all : ℕ) (ws : List ℕ) (x c : ℕ) (ps : List ℕ) → AtMost c ps →
    AtMost (c + 1) (step_at m all ws x ps)
step_small m all ws x c ps h =
    raised_small m all (worth_table ws) (member x) (left (buyer_rows m) (worth_table ws) (all - 1) ps) ps c h

-- a bundle that is worth what a buyer has left, or more, rises for the members
rising-worth : (m all : ℕ) (v : Table) (set : ℕ → Bool) (π : ℕ → ℕ) (j s : ℕ) → j < m → 1 ≤ s → s < all →
    π (suc j) ≤ v (suc j) s →
    rising (buyer_rows m) all v set π j s ≡ set (suc j)
rising-worth m all v set π j s a b c d =
    rw (lt-ltb j m a, le-leb 1 s b, lt-ltb s all c, le-leb (π (suc j)) (v (suc j) s) d) (and-true (set (suc j)))

-- the price of all lots rises for the members, so they have 1 less left
module _
    (m all : ℕ) (few : m ≤ 6) (two : 2 ≤ all) (short : all ≤ 16) (ws : List ℕ) (x : ℕ) (ps : List ℕ) (i : ℕ)
    (lo : 1 ≤ i) (hi : i ≤ m) where
  abbrev k : ℕ
  k = 16 * (i - 1) + (all - 1)

  abbrev has : ℕ → ℕ
  has = left (buyer_rows m) (worth_table ws) (all - 1) ps

  top_rises : rising (buyer_rows m) all (worth_table ws) (member x) has (i - 1) (all - 1) ≡ member x i
  top_rises =
      let own : suc (i - 1) ≡ i = omega arith in
      rising-worth m all (worth_table ws) (member x) has (i - 1) (all - 1)
      (omega arith) (omega arith) (omega arith) (omega arith)
      ∙ ap (member x) own

  top_price : get_or (step_at m all ws x ps) k 0 ≡ get_or ps k 0 + when (member x i) 1
  unfolding raised_by
  top_price =
      let j : k / 16 ≡ i - 1 = omega arith in
      let s : k - 16 * (k / 16) ≡ all - 1 = omega arith in
      let here : rising (buyer_rows m) all (worth_table ws) (member x) has (k / 16) (k - 16 * (k / 16)) ≡ member x i =
      ap (rising (buyer_rows m) all (worth_table ws) (member x) has (k / 16)) s
      ∙ ap (λ j. rising (buyer_rows m) all (worth_table ws) (member x) has j (all - 1)) j ∙ top_rises in
      tabulate-at 96 0 (risen_at (buyer_rows m) all (worth_table ws) (member x) has ps) k 0 (omega arith)
      ∙ ap (risen_at (buyer_rows m) all (worth_table ws) (member x) has ps) (zero-add k)
      ∙ ap (λ b. get_or ps k 0 + when b 1) here

  pub left_step :
      left (buyer_rows 6) (worth_table ws) (all - 1) (step_at m all ws x ps) i
      ≡ lower (member x) (left (buyer_rows 6) (worth_table ws) (all - 1) ps) i
  left_step = rw (ne_eqb (all - 1) 0 (λ z. omega arith)) (omega (arith, top_price))
