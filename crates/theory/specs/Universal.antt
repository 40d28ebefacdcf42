-- Universal competitive equilibria as the paper defines them, and answers by payoffs over all bundles.
-- Offers `Competitive` (definition 1), `Universal` (definition 2), `Answers`. Which numbers are bundles is a parameter.
use Rattle.std.specs.Prelude.{◌≡◌, ◌↔◌, true, List, ℕ, ◌+◌, ◌≤◌}
use Rattle.theory.specs.Lists.{◌∈◌}
use Rattle.theory.specs.Markets.{Market, Table, Bidder, total}
use Rattle.theory.specs.Auction.{Economy, Quote}

module _ {A : Type 0} (M : Market A) (bundle : ℕ → Type 0) where
  -- definition 1, a competitive equilibrium: an allocation of the economy, of greatest takings, that gives each bidder
  -- present a bundle of greatest payoff. Payoffs may be negative: v i s - p i s ≤ v i u - p i u is written as a sum.
  pub record Competitive (v p : Table) (e : Economy A) (a : A) : Type 0 where
    pub among : a ∈ e.lists
    pub takes : (c : A) → c ∈ e.lists → total M p c ≤ total M p a
    pub pleases : (i : ℕ) → Bidder M i → e.present i ≡ true → (s : ℕ) → bundle s →
        v i s + p i (M.holds a i) ≤ v i (M.holds a i) + p i s

  -- definition 2, a universal competitive equilibrium (UCE): the prices have one in each economy
  abbrev pub Universal : Table → Table → List (Economy A) → Type 0
  Universal v p es = (e : Economy A) → e ∈ es → (a : A) × Competitive v p e a

  -- b is each bidder's greatest payoff, and the quote answers by it, for every bundle
  pub record Answers (v : Table) (b : ℕ → ℕ) (q : Quote) : Type 0 where
    pub covered : (i : ℕ) → Bidder M i → (s : ℕ) → bundle s → v i s ≤ b i + q.prices i s
    pub reached : (i : ℕ) → Bidder M i → (s : ℕ) × bundle s × (v i s ≡ b i + q.prices i s)
    pub wanted : (i : ℕ) → Bidder M i → (s : ℕ) → bundle s →
        (q.wants i s ≡ true) ↔ (v i s ≡ b i + q.prices i s)
    pub eager : (i : ℕ) → Bidder M i → (q.keen i ≡ true) ↔ (1 ≤ b i)
    pub free : (i : ℕ) → Bidder M i → (v i 0 ≡ 0) × (q.prices i 0 ≡ 0)

  -- what is held in some allocations are bundles
  abbrev pub Bundled : List A → Type 0
  Bundled al = (a : A) → a ∈ al → (i : ℕ) → Bidder M i → bundle (M.holds a i)
