-- `trial::trial_sheet` meets its contract.
use Rattle.std.proofs.Common.{◌≡◌, true, ℕ, ◌-◌, ◌*◌, ◌^◌, ◌≤◌, length, sym, ap, ap₂, subst, ◌∙◌, arith}
use lib.ListN.{take}
use Rattle.sheet.specs.Questions.{between}
use Rattle.sheet.proofs.Faults.{between_means}
use Rattle.writing.proofs.Limits.{count_small}
use Rattle.trial.specs.Worths.{most_worths, trial_list}
use Rattle.trial.specs.Answers.{TrialSays}
use Rattle.trial.proofs.Tables.{most-length, list_front}
use Rattle.trial.proofs.Asking.{numbers_good}
use Rattle.trial.proofs.Answers.{says_refused, says_written}
use Rattle.trial.proofs.trial_sheet.Goals as goal
use Rattle.trial.proofs.trial_sheet.Goals.{After-bundles}

pub returns-in-Err : goal.returns-in-Err
returns-in-Err c =
    let z = c.args in
    subst (TrialSays z.number z.buyers z.lots z.top z.out.now z.out.now) (sym c.into.ensures)
    (says_refused z.number z.buyers z.lots z.top z.out.now c.in-Err.refusal c.in-Err.ensures.fault)

-- all is good but the buffer, of which nothing is known
module _ (c : After-bundles) where
  abbrev m : ℕ
  m = c.args.buyers

  abbrev n : ℕ
  n = c.args.lots

  abbrev count : ℕ
  count = c.in-Ok.size.buyers * (c.bundles.result - 1)

  asked : (between 6 m ≡ true) × (between 4 n ≡ true) × (c.args.top ≤ 9999)
  asked = numbers_good m n c.args.top c.in-Ok.ensures.fault

  count_is : count ≡ m * (2 ^ n - 1)
  count_is =
      ap (λ x. c.in-Ok.size.buyers * (x - 1)) c.bundles.ensures.is
      ∙ ap₂ (λ x y. x * (2 ^ y - 1)) c.in-Ok.ensures.size.0 c.in-Ok.ensures.size.1

  few : count ≤ 90
  few = omega (arith, count_is, count_small m n ((between_means 6 m).0 asked.0).1 ((between_means 4 n).0 asked.1).1)

  drawn_are : c.most_worths-worths.result ≡ most_worths c.args.number n c.args.top
  drawn_are =
      c.most_worths-worths.ensures ∙ ap (λ x. most_worths c.args.number x c.args.top) c.in-Ok.ensures.size.1

  worths_are : take count c.most_worths-worths.result ≡ trial_list c.args.number m n c.args.top
  worths_are = list_front c.args.number m n c.args.top _ count drawn_are count_is few

  inside : count ≤ length c.most_worths-worths.result
  inside = omega (arith, few, ap length drawn_are, most-length c.args.number n c.args.top)

pub returns-in-Ok : goal.returns-in-Ok
returns-in-Ok c =
    let z = c.args in
    let p = (goal.at.returns-in-Ok c).After-bundles in
    let good = asked p in
    says_written z.number z.buyers z.lots z.top z.out.now good.0 good.1 good.2 _ _ c.write_sheet.result (worths_are p)
    c.write_sheet.ensures
