-- What a sale keeps from round to round (`Keeps`): by its tables the words say what is supplied (`keeps_supplied`), and
-- the lowest set by them is the lowest undersupplied one (`keeps_lowest`). Its first tables are read off
-- (`keeps_start`), its numbers are small (`gain_small`, `revenue_small`), and after a round they are kept again
-- (`keeps_next`). Assumes at most six buyers.
use mathlib.Core.Path.{◌≡◌, refl, sym, ap, ◌∙◌}
use mathlib.Core.Bool.{Bool, true, false, not, ◌&&◌, ◌||◌}
use mathlib.Core.List.{List}
use Prim.Native.Nat.{ℕ, zero, suc, ◌+◌, ◌-◌, ◌^◌, ◌≤◌, ◌<◌}
use native.Mathlib.Nat.{zero-div}
use native.Mathlib.Numerals.{add-one}
use native.Mathlib.Omega.{arith}
use lib.Dec.{eqb, leb}
use lib.Pow.{pow_pos}
use Rattle.theory.specs.Sums.{when, sum, Among}
use Rattle.theory.specs.Lists.{tabulate, up_to}
use Rattle.theory.specs.Tests.{every, some, ◌⊃◌}
use Rattle.theory.specs.Markets.{lower}
use Rattle.theory.specs.Coalitions.{inside, covers, gain, revenue, supplied_by, lowest_by}
use Rattle.theory.specs.Kept.{shared}
use Rattle.theory.proofs.Tests.{itself, fails, and_means, imp_means, leb_means, every_means}
use Rattle.theory.proofs.Tests.{some_same, least_same, least_found}
use Rattle.theory.proofs.Sums.{sum_mono, sum_const}
use Rattle.theory.proofs.Lists.{most_upper, most_bound, most_same, tabulate_in, up_to_in, up_to_from}
use Rattle.theory.proofs.Coalitions.{gain_exact, gain_same, revenue_same, inside_means}
use Rattle.theory.proofs.Kept.{kept_gains, kept_revenues, lowest_keen}
use Rattle.numbers.specs.Numbers.{bit}
use Rattle.owners.specs.Owners.{member}
use Rattle.owners.specs.Quick.{present_in, roster_in, roster}
use Rattle.owners.specs.Singles.{AtMost}
use Rattle.owners.proofs.Quick.{roster_ranks}
use Rattle.supply.specs.Supply.{shift, at, payoff_at, Gains, Revenues, reaches, Supplied, lowest_in, Keeps}
use Rattle.supply.specs.Supply.{NextPayoffs, NextGains, NextRevenues, KeenMembers, SmallGains, SmallRevenues}

-- where not all pass, some do not
not_every : {A : Type 0} (k s : ℕ) (t : ℕ → Bool) (f : ℕ → A) (u : A → Bool) → ((i : ℕ) → Among k s i → t i ≡ u (f i)) →
    not (every k s t) ≡ some (λ a. not (u a)) (tabulate k s f)
not_every zero s t f u h = refl
not_every (suc k) s t f u h =
    rw (h s (omega arith), ← not_every k (suc s) t f u (λ i r. h i (omega arith)))
    (not_and (u (f s)) (every k (suc s) t))
  where
    not_and : (x y : Bool) → not (x && y) ≡ (not x || not y)
    not_and true y = refl
    not_and false y = refl

-- the tables of the first payoffs
pub keeps_start : (m l : ℕ) (values ps gs rs : List ℕ) → AtMost 9999 ps → Gains m values ps gs → Revenues m l gs rs →
    Keeps m l values ps gs rs
keeps_start m l values ps gs rs small gains revenues =
    record {
      small = small;
      gains = gains;
      revenues = λ e h.
          revenues e h
          ∙ most_same (λ k. when (inside (roster m) (present_in e) k) (at gs k))
          (λ k. when (inside (roster m) (present_in e) k) (gain (roster m) shift (at values) (payoff_at ps) k))
          (up_to (2 ^ m) 0) (λ k r. rw (gains k (omega (arith, up_to_from (2 ^ m) 0 r))));
    }

-- the lowest set by words is one of the buyers there are, and its members are keen
pub lowest_below : (m l : ℕ) (words ps : List ℕ) (x : ℕ) → lowest_in m l words ps ≡ suc x → x < 2 ^ m
lowest_below m l words ps x e = omega (arith, (least_found (2 ^ m) 0 _ x e).among)

pub lowest_keens : (m l : ℕ) (words ps : List ℕ) (x : ℕ) → lowest_in m l words ps ≡ suc x → KeenMembers m ps x
lowest_keens m l words ps x e i lo hi =
    let keens : ℕ → Bool = λ n. every m 1 (λ i. member n i ⊃ leb 1 (payoff_at ps i)) in
    let lacks : ℕ → Bool = λ n. not (every (l + 1) 0 (λ e. bit n (at words e))) in
    let passes = (least_found (2 ^ m) 0 (λ n. keens n && lacks n) x e).passes in
    (every_means m 1 (λ i r. imp_means (itself (member x i)) (leb_means 1 (payoff_at ps i)))).0
    ((and_means (itself (keens x)) (itself (lacks x))).0 passes).0 i (omega arith)

module _ (m l : ℕ) (few : m ≤ 6) (values ps gs rs : List ℕ) (keeps : Keeps m l values ps gs rs) where
  narrow : sum m 1 (payoff_at ps) ≤ 59994
  narrow = omega (arith, sum_mono m 1 (payoff_at ps) (λ _. 9999) (λ i r. keeps.small (i - 1)), sum_const m 1 9999)

  wide : sum m 1 (payoff_at ps) ≤ shift
  wide = omega (arith, narrow)

  module _ (words : List ℕ) (supplied : Supplied m l gs rs words) where
    pub keeps_supplied : (e n : ℕ) → e ≤ l → n < 2 ^ m →
        bit n (at words e) ≡ supplied_by (roster m) shift (at values) (payoff_at ps) n (present_in e)
    keeps_supplied e n h below =
        supplied e h n below
        ∙ some_same (λ k. reaches m (at gs k) (at rs e) e n k)
        (λ k. inside (roster m) (present_in e) k
        && (covers (roster m) (present_in e) n k
        && eqb (gain (roster m) shift (at values) (payoff_at ps) k)
        (revenue (roster m) shift (at values) (payoff_at ps) (present_in e))))
        (up_to (2 ^ m) 0) (λ k r. rw (keeps.gains k (omega (arith, up_to_from (2 ^ m) 0 r)), keeps.revenues e h))

    pub keeps_lowest : lowest_in m l words ps ≡ lowest_by (roster_in m l) shift (at values) (payoff_at ps)
    keeps_lowest =
        least_same (2 ^ m) 0 _ _ (λ n r. ap (λ t. every m 1 (λ i. member n i ⊃ leb 1 (payoff_at ps i)) && t)
        (ap (λ k. not (every k 0 (λ e. bit n (at words e)))) (add-one l)
        ∙ not_every (suc l) 0 (λ e. bit n (at words e)) present_in
        (supplied_by (roster m) shift (at values) (payoff_at ps) n)
        (λ e q. keeps_supplied e n (omega arith) (omega arith))))

  -- the numbers are small, and no revenue is 0
  module _ (low : AtMost 59994 values) where
    gain-most : (k : ℕ) → gain (roster m) shift (at values) (payoff_at ps) k ≤ 119994
    gain-most k = omega (arith, low k)

    pub gain_small : SmallGains m gs
    gain_small k h = omega (arith, keeps.gains k h, gain-most k)

    pub revenue_small : SmallRevenues l rs
    revenue_small e h =
        let R = roster m in
        let gain_in : ℕ → ℕ = λ k. when (inside R (present_in e) k) (gain R shift (at values) (payoff_at ps) k) in
        let in0 = up_to_in (2 ^ m) 0 {i = 0} (omega (arith, pow_pos m)) in
        let none : inside R (present_in e) 0 ≡ true =
        (inside_means R (present_in e) 0).1 (λ i r p. fails p (rw (zero-div (2 ^ (i - 1))))) in
        let up =
        most_bound gain_in 119994 (up_to (2 ^ m) 0) (λ k _. when-most (inside R (present_in e) k) (gain-most k)) in (
          omega (arith, keeps.revenues e h, rw none at (most_upper gain_in in0), gain-some 0),
          omega (arith, keeps.revenues e h, up),
        )
      where
        when-most : {x c : ℕ} (b : Bool) → x ≤ c → when b x ≤ c
        when-most true h = h
        when-most false h = omega arith

        gain-some : (k : ℕ) → 1 ≤ gain (roster m) shift (at values) (payoff_at ps) k
        gain-some k = omega (arith, gain_exact (roster m) 59994 (at values) (payoff_at ps) narrow k)

  -- after a round of the set x
  module _ (x : ℕ) (chosen : lowest_by (roster_in m l) shift (at values) (payoff_at ps) ≡ suc x) where
    pub keeps_next : (words : List ℕ) → Supplied m l gs rs words → (ps' gs' rs' : List ℕ) → AtMost 9999 ps' →
        NextPayoffs m ps x ps' → NextGains m gs x gs' → NextRevenues m l rs words x rs' →
        Keeps m l values ps' gs' rs'
    keeps_next words supplied ps' gs' rs' small fall rise raise =
        let R = roster_in m l in
        let v = at values in
        let keen : (i : ℕ) → Among m 1 i → member x i ≡ true → 1 ≤ payoff_at ps i =
        lowest_keen R (roster_ranks m l few) shift v (payoff_at ps) wide x chosen in
        let same : (i : ℕ) → Among m 1 i → lower (member x) (payoff_at ps) i ≡ payoff_at ps' i =
        λ i r. sym (fall i (omega arith) (omega arith)) in
        record {
          small = small;
          gains = λ k h. rise k h ∙ ap (λ g. g + shared R x k) (keeps.gains k h)
              ∙ sym (kept_gains R shift v (payoff_at ps) wide x keen k)
              ∙ gain_same R shift v (lower (member x) (payoff_at ps))
              (payoff_at ps') same k;
          revenues = λ e h.
              let is = rw (keeps_supplied words supplied e x h (omega (arith, below))) at (raise e h) in
              let next = kept_revenues R (roster_ranks m l few) shift v (payoff_at ps) wide x chosen (present_in e)
              (tabulate_in (suc l) 0 present_in e (omega arith)) in
              omega (
                arith,
                keeps.revenues e h,
                revenue_same R shift v (lower (member x) (payoff_at ps)) (payoff_at ps') same
                    (present_in e),
              );
        }
      where
        below : x < 2 ^ m
        below = omega (arith, (least_found (2 ^ m) 0 _ x chosen).among)
