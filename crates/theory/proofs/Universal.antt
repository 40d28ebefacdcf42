-- Prices are settled exactly if they are a universal competitive equilibrium (`settled_universal`); the closing's
-- allocation is then a competitive one (`closing_competitive`).
-- Assumes bidders that answer by their greatest payoffs over all bundles, as they do at a sale's own prices.
use mathlib.Core.Path.{◌≡◌, refl}
use mathlib.Core.Logic.{◌↔◌}
use mathlib.Core.Bool.{Bool, true}
use mathlib.Core.List.{List}
use Prim.Native.Nat.{ℕ}
use native.Mathlib.Omega.{arith}
use Rattle.theory.specs.Lists.{◌∈◌}
use Rattle.theory.specs.Markets.{Market, Table, total, Equilibrium, only}
use Rattle.theory.specs.Auction.{Economy, Quote, whole, fits, serves, closes, supplied, lowest, closing}
use Rattle.theory.specs.Auction.{SetsNumbered, Truthful, Absent}
use Rattle.theory.specs.Universal.{Competitive, Universal, Answers, Bundled}
use Rattle.theory.proofs.Tests.{Means, means_via, itself, and_means, some_means, by_test, fails}
use Rattle.theory.proofs.Lists.{most_upper, most_is, first_in, first_passes}
use Rattle.theory.proofs.Auction.{settled_iff, closes_equilibrium, supplied_equilibrium}

module _
    {A : Type 0} (M : Market A) (bundle : ℕ → Type 0) (v : Table) (b : ℕ → ℕ) (q : Quote)
    (answers : Answers M bundle v b q) where
  pub answers_truthful : (al : List A) → Bundled M bundle al → Truthful M v b al q
  answers_truthful al held =
      record {
        covered = λ a m i r. answers.covered i r (M.holds a i) (held a m i r);
        wanted = λ a m i r. answers.wanted i r (M.holds a i) (held a m i r);
        eager = answers.eager;
        free = answers.free;
      }

  -- an allocation with its takings and payoffs is competitive, and the other way round
  pub equilibrium_competitive : (e : Economy A) → Bundled M bundle e.lists → Absent M e →
      {a : A} → a ∈ e.lists →
      Equilibrium M v q.prices (only e.present b) e.lists a ↔ Competitive M bundle v q.prices e a
  equilibrium_competitive e held absent {a} m = (
    λ h. record {
      among = m;
      takes = λ c n. omega (arith, h.takes, most_upper (total M q.prices) n);
      pleases = λ i r p s k. omega (arith, rw p at (h.serves i r), answers.covered i r s k);
    },
    λ h. record {
      takes = omega (arith, most_is (total M q.prices) (total M q.prices a) h.takes m (omega arith));
      serves = λ i r.
          by_test (e.present i)
          (λ p. let (s, k, best) = answers.reached i r in
          rw p (omega (arith, h.pleases i r p s k, answers.covered i r (M.holds a i) (held a m i r))))
          (λ p. rw (p, absent a m i r p) (omega (arith, answers.free i r)));
    },
  )

  -- an economy supplies its keen bidders exactly if it has a competitive equilibrium
  pub supplied_competitive : (e : Economy A) → Bundled M bundle e.lists → Absent M e →
      Means (supplied M q q.keen e) ((a : A) × Competitive M bundle v q.prices e a)
  supplied_competitive e held absent =
      means_via (supplied_equilibrium M v b q e (answers_truthful e.lists held) absent)
      (λ (a, m, x). (a, (equilibrium_competitive e held absent m).0 x))
      (λ (a, c). (a, c.among, (equilibrium_competitive e held absent c.among).1 c))

  -- where all together are supplied, the closing's allocation fits and is a competitive equilibrium
  pub closing_competitive : (al : List A) → Bundled M bundle al → supplied M q q.keen (whole al) ≡ true → (d : A) →
      (fits M q al (closing M q al d) ≡ true) × Competitive M bundle v q.prices (whole al) (closing M q al d)
  closing_competitive al held served d =
      let closes_all = closes M q q.keen al in
      let (a, m, e) = (some_means al (λ a m. itself (closes_all a))).0 served in
      let m' = first_in closes_all d m e in
      let e' = first_passes closes_all d m e in
      let absent : Absent M (whole al) = λ a m i r p. fails refl p in
      let truthful = answers_truthful al held in (
        ((and_means (itself (fits M q al (closing M q al d))) (itself (serves M q q.keen (closing M q al d)))).0 e').0,
        (equilibrium_competitive (whole al) held absent m').0
            ((closes_equilibrium M v b q al truthful m' (λ _. true) (absent (closing M q al d) m')).0 e'),
      )

  pub settled_universal : (es : List (Economy A)) (member : ℕ → ℕ → Bool) (sets : ℕ) → SetsNumbered M member sets →
      ((e : Economy A) → e ∈ es → Bundled M bundle e.lists) → ((e : Economy A) → e ∈ es → Absent M e) →
      (lowest M member sets es q ≡ 0) ↔ Universal M bundle v q.prices es
  settled_universal es member sets numbered held absent =
      let settled = settled_iff M q es member sets numbered in (
        λ h e m. (supplied_competitive e (held e m) (absent e m)).0 (settled.0 h e m),
        λ h. settled.1 (λ e m. (supplied_competitive e (held e m) (absent e m)).1 (h e m)),
      )
