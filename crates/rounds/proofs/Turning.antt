-- A round by what is kept: where it finds no set (`turn_none`), and where it takes one (`turn_some`). Its numbers are
-- small (`kept_small`).
use mathlib.Core.Path.{◌≡◌, sym, ap, ◌∙◌}
use mathlib.Core.Bool.{true, false}
use mathlib.Core.List.{List}
use Prim.Native.Nat.{ℕ, suc, ◌-◌, ◌≤◌}
use lib.ListN.{length, set}
use Rattle.theory.specs.Sums.{when}
use Rattle.theory.specs.Coalitions.{lowest_by}
use Rattle.owners.specs.Owners.{member}
use Rattle.owners.specs.Prices.{buyer_rows}
use Rattle.owners.specs.Quick.{left, raised_by, roster_in}
use Rattle.owners.specs.Singles.{worth_table, AtMost}
use Rattle.supply.specs.Supply.{shift, at, payoff_at, Supplied, lowest_in, NextPayoffs, NextGains, NextRevenues}
use Rattle.supply.proofs.Keeping.{keeps_lowest, keeps_next, gain_small, revenue_small}
use Rattle.raising.proofs.Rising.{raised_long}
use Rattle.rounds.specs.declared.Tables.{Tables}
use Rattle.rounds.specs.Rounds.{lowest_at, step_at, KeptAt, Small, TurnAt}
use Rattle.rounds.proofs.Rising.{chosen_at, stepped_at, left_step}
use Rattle.rounds.proofs.Going.{round_none, round-some}

pub kept_small : {m l top : ℕ} {ws values ps : List ℕ} {k : Tables} → m ≤ 6 → AtMost 59994 values →
    KeptAt m l top ws values ps k → Small m l k
kept_small {m} {l} {values = values} {k = k} few low kept =
    record {
      payoffs = kept.keeps.small;
      gains = gain_small m l few values k.payoffs k.gains _ kept.keeps low;
      revenues = revenue_small m l few values k.payoffs k.gains k.revenues kept.keeps low;
    }

module _
    (m l all : ℕ) (few : m ≤ 6) (two : 2 ≤ all) (short : all ≤ 16) (ws ps : List ℕ) (k : Tables)
    (words : List ℕ) (supplied : Supplied m l k.gains k.revenues words) where
  module _ (values : List ℕ) (kept : KeptAt m l (all - 1) ws values ps k) (x : ℕ)
      (ex : lowest_in m l words k.payoffs ≡ x) where
    by_values : lowest_by (roster_in m l) shift (at values) (payoff_at k.payoffs) ≡ x
    by_values = sym (keeps_lowest m l few values k.payoffs k.gains k.revenues kept.keeps words supplied) ∙ ex

    chosen : x ≡ lowest_at m l (all - 1) ws values ps
    chosen = chosen_at m (all - 1) ws ps k.payoffs kept.payoffs l values x (sym by_values)

  pub turn_none : (o : List ℕ) → 0 ≡ lowest_in m l words k.payoffs → TurnAt m l all ws ps k o ps k o true
  turn_none o none values kept = (round_none _ _ ps o (chosen values kept 0 (sym none)), kept)

  pub turn_some : (x : ℕ) → suc x ≡ lowest_in m l words k.payoffs → (o o' qs : List ℕ) (k' : Tables) →
      o' ≡ set o 0 x →
      qs ≡ raised_by (buyer_rows m) all (worth_table ws) (member x) (payoff_at k.payoffs) ps →
      AtMost 9999 k'.payoffs → NextPayoffs m k.payoffs x k'.payoffs →
      NextGains m k.gains x k'.gains → NextRevenues m l k.revenues words x k'.revenues →
      TurnAt m l all ws ps k o qs k' o' false
  turn_some x ex o o' qs k' written raised small fall rise raise values kept =
      let step : qs ≡ step_at m all ws x ps =
      stepped_at m (all - 1) ws ps k.payoffs kept.payoffs all x qs raised in (
        round-some _ _ ps o x (chosen values kept (suc x) (sym ex)) qs o' written step,
        record {
          payoffs = λ i lo hi.
              fall i lo hi
              ∙ ap (λ n. n - when (member x i) 1) (kept.payoffs i lo hi)
              ∙ sym (left_step m all few two short ws x ps i lo hi)
              ∙ ap (λ qs. left (buyer_rows 6) (worth_table ws) (all - 1) qs i) (sym step);
          keeps =
              keeps_next m l few values k.payoffs k.gains k.revenues kept.keeps x
              (by_values values kept (suc x) (sym ex))
              words supplied k'.payoffs k'.gains k'.revenues small fall rise raise;
          prices = ap length raised ∙ raised_long m all (worth_table ws) (member x) (payoff_at k.payoffs) ps;
        },
      )
