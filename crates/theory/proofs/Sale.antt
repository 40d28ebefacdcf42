-- The sale by payoffs. Some allocation fits (`sale_fits`), the empty set is supplied (`empty_supplied`), and a chosen
-- set has a member (`chosen-some`). It settles in time (`sale_settles`, `sale_few`); what its rounds take and what is
-- left make up the first payoffs (`sale_raises`). Assumes `Ready`, `Proper`, and first payoffs up to the worths of all.
use mathlib.Core.Path.{◌≡◌}
use mathlib.Core.Bool.{Bool, true, false, not, ◌&&◌}
use Prim.Native.Nat.{ℕ, suc, ◌+◌, ◌≤◌}
use native.Mathlib.Omega.{arith}
use lib.ListN.{length}
use borrow.Author.Tests.{not-false}
use Rattle.theory.specs.Sums.{when}
use Rattle.theory.specs.Lists.{◌∈◌, sum_over}
use Rattle.theory.specs.Markets.{Market, Table, Bidder, sum_of, Fits, asks}
use Rattle.theory.specs.Auction.{Economy, everyone, undersupplied, Truthful, own, Auction, Ready, Proper, Modest}
use Rattle.theory.specs.Auction.{SettledAt, chosen, round, rounds, last, size}
use Rattle.theory.proofs.Tests.{by_test, fails, itself, and_means, not_means, leb_means, every_means}
use Rattle.theory.proofs.Tests.{every_fails}
use Rattle.theory.proofs.Sums.{sum_part}
use Rattle.theory.proofs.Ascent.{some_fits, lower-sum}
use Rattle.theory.proofs.Auction.{Suits, supplied_means, undersupplied_means, lowest-least, lowest_found}
use Rattle.theory.proofs.Auction.{fits_means, own_truthful}
use Rattle.theory.proofs.Rounds.{choices_settle, choices_few, choices_sizes}

module _ {A : Type 0} (X : Auction A) (ready : Ready X) (v : Table) (proper : Proper X v) where
  abbrev M : Market A
  M = X.market

  abbrev choose : (ℕ → ℕ) → ℕ
  choose π = chosen X (own v π)

  pub sale_truthful : (π : ℕ → ℕ) (e : Economy A) → Truthful M v π e.lists (own v π)
  sale_truthful π e = own_truthful v π M proper.free e.lists

  module _ (π : ℕ → ℕ) (modest : Modest X v π) where
    pub sale_fits : (e : Economy A) → e ∈ X.economies →
        (x : A) × (x ∈ e.lists) × Fits M v (asks v π) π e.lists x
    sale_fits e m =
        let s = ready.sound e m in
        some_fits M X.within X.top v π e.lists proper.monotone s.drops modest s.one.1

    -- a set with no member is supplied by any allocation that fits
    pub empty_supplied : (set : ℕ → Bool) → ((i : ℕ) → Bidder M i → set i ≡ true → ⊥) →
        undersupplied M (own v π) X.economies set ≡ false
    empty_supplied set nobody =
        by_test (undersupplied M (own v π) X.economies set)
        (λ p.
        let (_, (e, m, short)) = (undersupplied_means M (own v π) X.economies set).0 p in
        let (x, n, f) = sale_fits e m in
        let fit = (fits_means M v π (own v π) e.lists (sale_truthful π e) n).1 f in
        let suits : Suits M (own v π) (λ i. e.present i && set i) x =
        λ i r w. absurd (nobody i r ((and_means (itself (e.present i)) (itself (set i))).0 w).1) in
        absurd (short ((supplied_means M (own v π) set e).1 (x, n, (fit, suits)))))
        (λ p. p)

  -- each member of a chosen set has a payoff, and there is one
  pub chosen_keen : (π : ℕ → ℕ) (n : ℕ) → chosen X (own v π) ≡ suc n →
      (i : ℕ) → Bidder M i → X.member n i ≡ true → 1 ≤ π i
  chosen_keen π n h i r w =
      (leb_means 1 (π i)).0 ((lowest_found M (own v π) X.economies X.member X.sets n h).0 i r w)

  pub chosen-some : (π : ℕ → ℕ) (n : ℕ) → Modest X v π → chosen X (own v π) ≡ suc n →
      (i : ℕ) × Bidder M i × (X.member n i ≡ true)
  chosen-some π n modest h =
      by_test (everyone M (λ i. not (X.member n i)))
      (λ none.
      let nobody = (every_means M.many M.low (λ i r. not_means (itself (X.member n i)))).0 none in
      fails
      (lowest-least M (own v π) X.economies X.member X.sets n h).passes
      (empty_supplied π modest (X.member n) nobody))
      (λ some.
      let (i, r, p) = every_fails M.many M.low (λ i. not (X.member n i)) some in
      (i, r, not-false (X.member n i) p))

  stays : (π : ℕ → ℕ) (n : ℕ) → Modest X v π → choose π ≡ suc n → Modest X v (round X n π)
  stays π n modest h i r = omega (arith, modest i r)

  falls : (π : ℕ → ℕ) (n : ℕ) → Modest X v π → choose π ≡ suc n →
      (1 ≤ size X n) × (size X n + sum_of M (round X n π) ≡ sum_of M π)
  falls π n modest h =
      let (i, r, w) = chosen-some π n modest h in
      let one : when (X.member n i) 1 ≡ 1 = rw w in (
        omega (arith, sum_part M.many M.low (λ i. when (X.member n i) 1) i r),
        lower-sum M (X.member n) π (chosen_keen π n h),
      )

  -- at most f rounds from modest payoffs on
  module _ (π : ℕ → ℕ) (modest : Modest X v π) (f : ℕ) where
    pub sale_settles : sum_of M π ≤ f → SettledAt X v (last X v π f)
    sale_settles room = choices_settle choose (round X) (Modest X v) stays (sum_of M) (size X) falls f π modest room

    pub sale_few : length (rounds X v π f) ≤ sum_of M π
    sale_few = choices_few choose (round X) (Modest X v) stays (sum_of M) (size X) falls f π modest

    pub sale_raises : sum_over (size X) (rounds X v π f) + sum_of M (last X v π f) ≡ sum_of M π
    sale_raises = choices_sizes choose (round X) (Modest X v) stays (sum_of M) (size X) falls f π modest
