-- Gains and revenues from one round to the next. A set's gain rises by its members in the raised set (`kept_gains`); a
-- revenue by the members present, less 1 if the set is undersupplied there (`kept_revenues`), since the set without one
-- of them is supplied; and so does the greatest of what allocations bring (`kept_takings`).
-- Assumes payoffs that come to at most `shift`, and `Ranks`.
use mathlib.Core.Path.{◌≡◌, refl, sym, ap, ◌∙◌}
use mathlib.Core.Logic.{◌≢◌}
use mathlib.Core.Bool.{Bool, true, false, not, ◌&&◌}
use mathlib.Core.List.Memᴰ
use mathlib.Core.List.{List}
use Prim.Native.Nat.{ℕ, suc, ◌+◌, ◌≤◌, ◌<◌}
use native.Mathlib.Omega.{arith}
use native.Mathlib.Decide.{ℕ_discrete}
use lib.Dec.{leb}
use borrow.Author.Tests.{eq-eqb, ne_eqb, not-false}
use Rattle.theory.specs.Sums.{when, sum, Among}
use Rattle.theory.specs.Lists.{◌∈◌, most, up_to}
use Rattle.theory.specs.Tests.{◌⊃◌, every, some}
use Rattle.theory.specs.Markets.{Market, Table, sum_of, total, only, asks, lower, other_than}
use Rattle.theory.specs.Auction.{Economy, supplied, own, Auction, Ready, Proper, Ranked, Modest, chosen, round}
use Rattle.theory.specs.Coalitions.{Part, Values, Roster, roster_of, payoff_of, inside, covers}
use Rattle.theory.specs.Coalitions.{gain, revenue, supplied_by, lowest_by}
use Rattle.theory.specs.Kept.{shared, around, Ranks}
use Rattle.theory.proofs.Tests.{by_test, fails, Means, itself, and_means, not_means, imp_means, leb_means}
use Rattle.theory.proofs.Tests.{imp_fails, every_means, every_fails, some_means, Least, least_found}
use Rattle.theory.proofs.Sums.{when_up, when_one, sum_mono, sum_same, sum_add, sum_but}
use Rattle.theory.proofs.Lists.{most_upper, most_is, most-reached, up_to_in}
use Rattle.theory.proofs.Ascent.{lower_exact}
use Rattle.theory.proofs.Sale.{chosen_keen}
use Rattle.theory.proofs.Coalitions.{inside_means, Present, present_means, Has, covers_means}
use Rattle.theory.proofs.Coalitions.{supplied_by_means, gain_exact, revenue_is, supplied_by_lem, lowest_by_lem}

module _ (R : Roster) (x : ℕ) where
  abbrev Bidding : ℕ → Type 0
  Bidding i = Among R.many R.low i

  -- members in a set and present
  module _ (present : ℕ → Bool) (n : ℕ) where
    abbrev both : ℕ → ℕ
    both i = when (R.member n i && R.member x i) 1

    abbrev attending : ℕ → ℕ
    attending i = when (present i && R.member x i) 1

    attend_both : (i : ℕ) → (present i && R.member x i ≡ true → R.member n i ≡ true) → attending i ≤ both i
    attend_both i h =
        when_up (present i && R.member x i) (R.member n i && R.member x i) (λ p.
        (and_means (itself (R.member n i)) (itself (R.member x i))).1 (h p, ((present_means R present x i).0 p).1))

    shared_all : Has R present x n → around R present x ≤ shared R x n
    shared_all has =
        sum_mono R.many R.low attending both
        (λ i r. attend_both i (λ p. has i r ((present_means R present x i).0 p)))

    module _ (h : inside R present n ≡ true) where
      both_attend : (i : ℕ) → Bidding i → both i ≤ attending i
      both_attend i r =
          when_up (R.member n i && R.member x i) (present i && R.member x i) (λ p.
          let (a, b) = (and_means (itself (R.member n i)) (itself (R.member x i))).0 p in
          (present_means R present x i).1 ((inside_means R present n).0 h i r a, b))

      shared-most : shared R x n ≤ around R present x
      shared-most = sum_mono R.many R.low both attending both_attend

      -- a set that lacks a member present shares fewer
      shared_less : covers R present x n ≡ false → shared R x n + 1 ≤ around R present x
      shared_less f =
          let (i, r, p) =
          every_fails R.many R.low (λ i. (present i && R.member x i) ⊃ R.member n i) f in
          let (here, out) = imp_fails (present i && R.member x i) (R.member n i) p in
          let one : attending i ≡ 1 = rw here in
          let no : both i ≡ 0 = rw out in
          omega (arith, sum_but R.many R.low both attending i r (λ j q _. both_attend j q))

    -- a set with all members present but i shares at most 1 less
    shared_but : (i : ℕ) → Bidding i →
        ((j : ℕ) → Bidding j → j ≢ i → present j && R.member x j ≡ true → R.member n j ≡ true) →
        around R present x ≤ shared R x n + 1
    shared_but i r has =
        omega (
          arith,
          when_one (present i && R.member x i),
          sum_but R.many R.low attending both i r (λ j q z. attend_both j (has j q z)),
        )

-- a round of the set x, at payoffs π
module _
    (R : Roster) (shift : ℕ) (value : ℕ → ℕ) (π : ℕ → ℕ) (wide : sum R.many R.low π ≤ shift) (x : ℕ)
    (keen : (i : ℕ) → Among R.many R.low i → R.member x i ≡ true → 1 ≤ π i) where
  abbrev next : ℕ → ℕ
  next = lower (R.member x) π

  payoffs_fall : (n : ℕ) → payoff_of R next n + shared R x n ≡ payoff_of R π n
  payoffs_fall n =
      omega (
        arith,
        sum_add R.many R.low (only (R.member n) next) (both R x (R.member n) n),
        sum_same R.many R.low
            (λ i. only (R.member n) next i + both R x (R.member n) n i) (only (R.member n) π) falls,
      )
    where
      falls : (i : ℕ) → Among R.many R.low i →
          only (R.member n) next i + both R x (R.member n) n i ≡ only (R.member n) π i
      falls i r =
          by_test (R.member n i)
          (λ p. rw p (omega (arith, lower_exact (R.member x) π i (keen i r))))
          (λ p. rw p (omega arith))

  pub kept_gains : (n : ℕ) → gain R shift value next n ≡ gain R shift value π n + shared R x n
  kept_gains n = omega (arith, payoffs_fall n, gain_exact R shift value π wide n)

  module _ (present : ℕ → Bool) where
    abbrev before : ℕ
    before = revenue R shift value π present

    abbrev gained : ℕ → ℕ
    gained n = gain R shift value π n

    gain_below : (n : ℕ) → n ∈ up_to R.sets 0 → inside R present n ≡ true → gained n ≤ before
    gain_below n m h = rw h at (most_upper (λ n. when (inside R present n) (gained n)) m)

    -- the revenue after the round, by a set that gains it and a bound of all
    revenue_next : (k t : ℕ) → k ∈ up_to R.sets 0 → inside R present k ≡ true → gained k + shared R x k ≡ t →
        ((n : ℕ) → n ∈ up_to R.sets 0 → inside R present n ≡ true → gained n + shared R x n ≤ t) →
        revenue R shift value next present ≡ t
    revenue_next k t m h e bound =
        most_is (λ n. when (inside R present n) (gain R shift value next n)) t
        (λ n l. by_test (inside R present n)
        (λ p. rw (p, kept_gains n) (bound n l p))
        (λ p. rw p (omega arith)))
        m (rw h (kept_gains k ∙ e))

    pub revenue-supplied : supplied_by R shift value π x present ≡ true →
        revenue R shift value next present ≡ before + around R present x
    revenue-supplied s =
        let (k, m, (h, (has, e))) = (supplied_by_means R present shift value π x).0 s in
        revenue_next k _ m h (omega (arith, shared-most R x present k h, shared_all R x present k has))
        (λ n l p. omega (arith, gain_below n l p, shared-most R x present n p))

    -- a set that has all members present but i, and gains the revenue
    pub revenue_short : supplied_by R shift value π x present ≡ false → (i : ℕ) → Among R.many R.low i → (y : ℕ) →
        ((j : ℕ) → Among R.many R.low j → R.member y j ≡ (R.member x j && other_than i j)) →
        supplied_by R shift value π y present ≡ true →
        revenue R shift value next present + 1 ≡ before + around R present x
    revenue_short f i r y same s =
        let (k, m, (h, (has, e))) = (supplied_by_means R present shift value π y).0 s in
        let lacks : (n : ℕ) → n ∈ up_to R.sets 0 → inside R present n ≡ true → gained n ≡ before →
        shared R x n + 1 ≤ around R present x =
        λ n l p q. shared_less R x present n p (by_test (covers R present x n)
        (λ c. fails ((supplied_by_means R present shift value π x).1 (n, l, (p, ((covers_means R present x n).0 c, q))))
        f)
        (λ c. c)) in
        let one : shared R x k + 1 ≡ around R present x =
        omega (
          arith,
          lacks k m h e,
          shared_but R x present k i r (λ j q z p.
              let (a, b) = (present_means R present x j).0 p in
              has j q (
                a,
                same j q ∙ (and_means (itself (R.member x j)) (itself (other_than i j))).1
                    (b, ap not (ne_eqb j i z)),
              )),
        ) in
        let is : revenue R shift value next present ≡ before + shared R x k =
        revenue_next k _ m h (omega arith) (λ n l p.
        elim (ℕ_discrete (gained n) before) [
          | yes q ↦ omega (arith, lacks n l p q)
          | no q ↦ omega (arith, gain_below n l p, shared-most R x present n p)
        ]) in
        omega arith

-- the set of a round is the lowest undersupplied one
module _
    (R : Roster) (ranks : Ranks R) (shift : ℕ) (value : ℕ → ℕ) (π : ℕ → ℕ) (wide : sum R.many R.low π ≤ shift)
    (x : ℕ) (chosen : lowest_by R shift value π ≡ suc x) where
  abbrev lacking : ℕ → Bool
  lacking n =
      every R.many R.low (λ i. R.member n i ⊃ leb 1 (π i))
      && some (λ present. not (supplied_by R shift value π n present)) R.presents

  abbrev KeenMembers : ℕ → Type 0
  KeenMembers n = (i : ℕ) → Among R.many R.low i → R.member n i ≡ true → 1 ≤ π i

  Lacks : ℕ → Type 0
  Lacks n =
      KeenMembers n × ((p : ℕ → Bool) × (p ∈ R.presents) × (supplied_by R shift value π n p ≡ true → ⊥))

  lacking_means : (n : ℕ) → Means (lacking n) (Lacks n)
  unfolding Lacks
  lacking_means n =
      and_means
      (every_means R.many R.low (λ i r. imp_means (itself (R.member n i)) (leb_means 1 (π i))))
      (some_means R.presents (λ p m. not_means (itself (supplied_by R shift value π n p))))

  lowest_is : Least R.sets 0 lacking x
  lowest_is = least_found R.sets 0 lacking x chosen

  pub lowest_keen : KeenMembers x
  unfolding Lacks
  lowest_keen = ((lacking_means x).0 lowest_is.passes).0

  module _ (present : ℕ → Bool) (among : present ∈ R.presents) where
    -- a lower set of keen bidders is supplied
    lower-supplied : (y : ℕ) → y < x → KeenMembers y → supplied_by R shift value π y present ≡ true
    unfolding Lacks
    lower-supplied y l keen =
        by_test (supplied_by R shift value π y present)
        (λ p. p)
        (λ p. fails
        ((lacking_means y).1 (keen, (present, among, λ q. fails q p))) (lowest_is.before y (omega arith) l))

    -- some set in the economy gains the revenue, so a set of none that are present is supplied
    nobody_supplied : ((i : ℕ) → Among R.many R.low i → Present R present x i → ⊥) →
        supplied_by R shift value π x present ≡ true
    nobody_supplied nobody =
        let (z, l, empty) = ranks.none in
        let gain_in : ℕ → ℕ = λ n. when (inside R present n) (gain R shift value π n) in
        let zero = up_to_in R.sets 0 {i = z} (omega arith) in
        let within : inside R present z ≡ true =
        (inside_means R present z).1 (λ i r p. fails p (empty i r)) in
        let (n, m, e) = most-reached gain_in zero in
        let has : (k : ℕ) → Has R present x k = λ k i r p. absurd (nobody i r p) in
        (supplied_by_means R present shift value π x).1 (by_test (inside R present n)
        (λ p. (n, m, (p, (has n, rw p at e))))
        (λ p.
        let least : 0 ≡ revenue R shift value π present = rw p at e in
        (z, zero, (within, (has z, omega (arith, rw within at (most_upper gain_in zero)))))))

    pub kept_revenues :
        revenue R shift value (lower (R.member x) π) present + when (not (supplied_by R shift value π x present)) 1
        ≡ revenue R shift value π present + around R present x
    kept_revenues =
        by_test (supplied_by R shift value π x present)
        (λ p. rw p (omega (arith, revenue-supplied R shift value π wide x lowest_keen present p)))
        (λ p. rw p (elim_member p))
      where
        elim_member : supplied_by R shift value π x present ≡ false →
            revenue R shift value (lower (R.member x) π) present + 1
            ≡ revenue R shift value π present + around R present x
        elim_member p =
            by_test (every R.many R.low (λ i. not (present i && R.member x i)))
            (λ q. fails (nobody_supplied (λ i r w.
            (every_means R.many R.low (λ i r. not_means (present_means R present x i))).0 q i r w)) p)
            (λ q.
            let (i, r, w) = every_fails R.many R.low (λ i. not (present i && R.member x i)) q in
            let (_, has) = (present_means R present x i).0 (not-false _ w) in
            let (y, l, same) = ranks.fewer x i r has in
            let keen : KeenMembers y =
            λ j u h. lowest_keen j u ((and_means (itself (R.member x j)) (itself _)).0 (sym (same j u) ∙ h)).0 in
            revenue_short R shift value π wide x lowest_keen present p i r y same (lower-supplied y l keen))

-- an auction whose sets are ranked by their numbers
pub ranked_ranks : {A : Type 0} (X : Auction A) → Ranked X.market X.member X.sets → Ranks (roster_of X)
ranked_ranks X ranked =
    record {
      none = let (z, l, same, _) = ranked (λ _. false) in (z, l, same);
      fewer = λ x i r has.
          let part : ℕ → Bool = λ j. X.member x j && other_than i j in
          let (y, _, same, under) = ranked part in (
            y,
            under x (record {
              inside = λ j q p. ((and_means (itself (X.member x j)) (itself (other_than i j))).0 p).0;
              short = (i, r, has, rw (has, eq-eqb i i refl));
            }),
            same,
          );
    }

-- the definition's revenue, by allocations, before and after a round
module _
    {A : Type 0} (X : Auction A) (ready : Ready X) (ranked : Ranked X.market X.member X.sets)
    (v : Table) (proper : Proper X v) (al : List A) (value : ℕ → ℕ) (values : Values X v al value)
    (part : (e : Economy A) → e ∈ X.economies → Part X.market al e)
    (π : ℕ → ℕ) (modest : Modest X v π) (x : ℕ) (taken : chosen X (own v π) ≡ suc x)
    (e : Economy A) (m : e ∈ X.economies) where
  abbrev M : Market A
  M = X.market

  abbrev shift : ℕ
  shift = sum_of M π

  pub kept_takings :
      most (total M (asks v (round X x π))) e.lists + when (not (supplied M (own v π) (X.member x) e)) 1
      ≡ most (total M (asks v π)) e.lists + around (roster_of X) e.present x
  kept_takings =
      let keen = chosen_keen X ready v proper π x taken in
      let less : sum_of M (round X x π) ≤ shift =
      sum_mono M.many M.low (round X x π) π (λ i r. omega arith) in
      rw (supplied_by_lem X ready v proper al value values part π modest shift (omega arith) e m x keen)
      (omega (
        arith,
        revenue_is X ready v proper al value values part π modest shift (omega arith) e m,
        revenue_is X ready v proper al value values part (round X x π) (λ i r. omega (arith, modest i r)) shift less e
            m,
        kept_revenues (roster_of X) (ranked_ranks X ranked) shift value π (omega arith) x
            (sym (lowest_by_lem X ready v proper al value values part π modest shift (omega arith)) ∙ taken)
            e.present (Memᴰ.map (λ e. e.present) m),
      ))
