-- What the tests say, at any prices (`supplied_means`, `undersupplied_means`). If a set is undersupplied, that of all
-- keen bidders is (`undersupplied_keen`). The lowest undersupplied set is the least, and no proper subset of it is
-- undersupplied (`lowest-least`, `lowest_minimal`); there is none exactly if each economy supplies its keen
-- bidders (`settled_iff`), and so has an equilibrium where they answer truthfully (`supplied_equilibrium`).
use mathlib.Core.Path.{◌≡◌, sym, ◌∙◌}
use mathlib.Core.Logic.{◌↔◌}
use mathlib.Core.Bool.{Bool, true, false, ◌&&◌}
use mathlib.Core.List.{List}
use Prim.Native.Nat.{ℕ, suc, ◌+◌}
use native.Mathlib.Omega.{arith}
use Rattle.theory.specs.Lists.{◌∈◌, most}
use Rattle.theory.specs.Markets.{Market, Table, Bidder, total, Equilibrium, Fits, only, asks}
use Rattle.theory.specs.Auction.{Economy, Quote, fits, serves, closes, supplied, undersupplied, lowest}
use Rattle.theory.specs.Auction.{SetsNumbered, Ranked, Minimal, Truthful, Absent, own}
use Rattle.theory.proofs.Tests.{Means, means_via, itself, eqb_means, leb_means, and_means, or_means, imp_means}
use Rattle.theory.proofs.Tests.{not_means, every_means, some_means, by_test, fails, Least, least_none}
use Rattle.theory.proofs.Tests.{least_found}
use Rattle.theory.proofs.Ascent.{asks_cover, asks_demand, served_equilibrium}
use Rattle.theory.proofs.Rounds.{by_choice}

module _ {A : Type 0} (M : Market A) (q : Quote) where
  abbrev pub Suits : (ℕ → Bool) → A → Type 0
  Suits set a = (i : ℕ) → Bidder M i → set i ≡ true → q.wants i (M.holds a i) ≡ true

  serves_means : (set : ℕ → Bool) (a : A) → Means (serves M q set a) (Suits set a)
  serves_means set a =
      every_means M.many M.low (λ i r. imp_means (itself (set i)) (itself (q.wants i (M.holds a i))))

  pub supplied_means : (set : ℕ → Bool) (e : Economy A) →
      Means (supplied M q set e)
      ((a : A) × (a ∈ e.lists) × ((fits M q e.lists a ≡ true) × Suits (λ i. e.present i && set i) a))
  supplied_means set e =
      some_means e.lists (λ a m.
      and_means (itself (fits M q e.lists a)) (serves_means (λ i. e.present i && set i) a))

  abbrev pub Undersupplied : List (Economy A) → (ℕ → Bool) → Type 0
  Undersupplied es set =
      ((i : ℕ) → Bidder M i → set i ≡ true → q.keen i ≡ true) ×
      ((e : Economy A) × (e ∈ es) × (supplied M q set e ≡ true → ⊥))

  pub undersupplied_means : (es : List (Economy A)) (set : ℕ → Bool) →
      Means (undersupplied M q es set) (Undersupplied es set)
  undersupplied_means es set =
      and_means
      (every_means M.many M.low (λ i r. imp_means (itself (set i)) (itself (q.keen i))))
      (some_means es (λ e m. not_means (itself (supplied M q set e))))

  pub supplied_fewer : (set more : ℕ → Bool) → ((i : ℕ) → Bidder M i → set i ≡ true → more i ≡ true) →
      (e : Economy A) → supplied M q more e ≡ true → supplied M q set e ≡ true
  supplied_fewer set more sub e h =
      let (a, m, (fits, suits)) = (supplied_means more e).0 h in
      let fewer : Suits (λ i. e.present i && set i) a =
      λ i r w.
      let (here, in_set) = (and_means (itself (e.present i)) (itself (set i))).0 w in
      suits i r ((and_means (itself (e.present i)) (itself (more i))).1 (here, sub i r in_set)) in
      (supplied_means set e).1 (a, m, (fits, fewer))

  undersupplied_same : (es : List (Economy A)) (set set' : ℕ → Bool) → ((i : ℕ) → Bidder M i → set i ≡ set' i) →
      undersupplied M q es set ≡ true → undersupplied M q es set' ≡ true
  undersupplied_same es set set' same h =
      let (keen, (e, m, short)) = (undersupplied_means es set).0 h in
      (undersupplied_means es set').1 (
        λ i r w. keen i r (same i r ∙ w),
        (e, m, λ w. short (supplied_fewer set set' (λ i r p. sym (same i r) ∙ p) e w)),
      )

  -- if some set is undersupplied, then so is that of all keen bidders
  pub undersupplied_keen : (es : List (Economy A)) (set all : ℕ → Bool) → undersupplied M q es set ≡ true →
      ((i : ℕ) → Bidder M i → all i ≡ q.keen i) → undersupplied M q es all ≡ true
  undersupplied_keen es set all h same =
      let (keen, (e, m, short)) = (undersupplied_means es set).0 h in
      (undersupplied_means es all).1 (
        λ i r w. sym (same i r) ∙ w,
        (e, m, λ w. short (supplied_fewer set all (λ i r p. same i r ∙ keen i r p) e w)),
      )

  module _ (es : List (Economy A)) (member : ℕ → ℕ → Bool) (sets : ℕ) where
    pub lowest-least : (n : ℕ) → lowest M member sets es q ≡ suc n →
        Least sets 0 (λ n. undersupplied M q es (member n)) n
    lowest-least n h = least_found sets 0 (λ n. undersupplied M q es (member n)) n h

    pub lowest_found : (n : ℕ) → lowest M member sets es q ≡ suc n → Undersupplied es (member n)
    lowest_found n h = (undersupplied_means es (member n)).0 (lowest-least n h).passes

    -- a proper subset has a lower number
    pub lowest_minimal : Ranked M member sets → (n : ℕ) → lowest M member sets es q ≡ suc n →
        Minimal M q es (member n)
    lowest_minimal ranked n h =
        let found = lowest-least n h in
        record {
          undersupply = found.passes;
          least = λ part beneath. by_test (undersupplied M q es part)
              (λ p. let (k, _, same, lower) = ranked part in
              fails
              (undersupplied_same es part (member k) (λ i r. sym (same i r)) p)
              (found.before k (omega arith) (lower n beneath)))
              (λ p. p);
        }

    -- nothing is undersupplied exactly if each economy supplies its keen bidders
    pub settled_iff : SetsNumbered M member sets →
        (lowest M member sets es q ≡ 0) ↔ ((e : Economy A) → e ∈ es → supplied M q q.keen e ≡ true)
    settled_iff numbered = (
      λ h e m. by_test (supplied M q q.keen e) (λ p. p) (λ p.
          let (n, l, same) = numbered q.keen in
          fails
          ((undersupplied_means es (member n)).1 (
            λ i r w. sym (same i r) ∙ w,
            (e, m, λ w. fails (supplied_fewer q.keen (member n) (λ i r k. same i r ∙ k) e w) p),
          ))
          (least_none sets 0 (λ n. undersupplied M q es (member n)) h n (omega arith))),
      λ h. by_choice (lowest M member sets es q) (λ e. e) (λ n e.
          let (k, c) = lowest_found n e in
          absurd (c.2 (supplied_fewer (member n) q.keen k c.0 (h c.0 c.1)))),
    )

-- at prices to which bidders with worths v and payoffs b answer truthfully
module _
    {A : Type 0} (M : Market A) (v : Table) (b : ℕ → ℕ) (q : Quote)
    (al : List A) (truthful : Truthful M v b al q) where
  pub fits_means : {a : A} → a ∈ al → Means (fits M q al a) (Fits M v q.prices b al a)
  fits_means {a} m =
      means_via
      (and_means
      (eqb_means (total M q.prices a) (most (total M q.prices) al))
      (every_means M.many M.low (λ i r. or_means (eqb_means (M.holds a i) 0) (truthful.wanted a m i r))))
      (λ c. record { takes = c.0; gives = c.1 })
      (λ f. (f.takes, f.gives))

  -- an allocation that fits and serves the keen bidders present is an equilibrium among those present
  pub closes_equilibrium : {a : A} → a ∈ al →
      (present : ℕ → Bool) → ((i : ℕ) → Bidder M i → present i ≡ false → M.holds a i ≡ 0) →
      Means (closes M q (λ i. present i && q.keen i) al a) (Equilibrium M v q.prices (only present b) al a)
  closes_equilibrium {a} m present absent =
      let e = served_equilibrium M v q.prices b present al truthful.free absent in
      means_via
      (and_means
      (fits_means m)
      (every_means M.many M.low (λ i r.
      imp_means (and_means (itself (present i)) (truthful.eager i r)) (truthful.wanted a m i r))))
      (λ c. e.0 (c.0, λ i r p k. c.1 i r (p, k)))
      (λ x. let (f, s) = e.1 x in (f, λ i r w. s i r w.0 w.1))

-- an economy supplies its keen bidders exactly if it has an equilibrium
pub supplied_equilibrium : {A : Type 0} (M : Market A) (v : Table) (b : ℕ → ℕ) (q : Quote) (e : Economy A) →
    Truthful M v b e.lists q → Absent M e →
    Means (supplied M q q.keen e)
    ((x : A) × (x ∈ e.lists) × Equilibrium M v q.prices (only e.present b) e.lists x)
supplied_equilibrium M v b q e truthful absent =
    some_means e.lists (λ a n. closes_equilibrium M v b q e.lists truthful n e.present (absent a n))

-- at a sale's own prices
module _ (v : Table) (π : ℕ → ℕ) where
  pub own_wants : (i s : ℕ) → Means ((own v π).wants i s) (v i s ≡ π i + asks v π i s)
  own_wants i s = let d = asks_demand v π i s in means_via (leb_means (π i) (v i s)) d.1 d.0

  pub own_truthful : {A : Type 0} (M : Market A) → ((i : ℕ) → Bidder M i → v i 0 ≡ 0) →
      (al : List A) → Truthful M v π al (own v π)
  own_truthful M free al =
      record {
        covered = λ a m i r. asks_cover v π i (M.holds a i);
        wanted = λ a m i r. own_wants i (M.holds a i);
        eager = λ i r. leb_means 1 (π i);
        free = λ i r. (free i r, omega (arith, free i r));
      }
