-- All that is claimed of trial sheets.
use mathlib.Core.Path.{refl}
use Rattle.trial.specs.Claims.{Trials}
use Rattle.trial.proofs.Tables.{trial_worth}
use Rattle.trial.proofs.Questions.{trial_first_no, trial_all_yes, trial_numbers_lem, trial_capped}
use Rattle.trial.proofs.Answers.{trial_told}
use Rattle.trial.proofs.Sold.{trial_accepted, trial_sold, trial_record}
use Rattle.trial.proofs.Texts.{text_says, text_longest, text_typed}

pub trials_all : Trials
trials_all =
    record {
      trial_empty = λ N n top i. refl;
      trial_worth = trial_worth;
      trial_first_no = trial_first_no;
      trial_all_yes = trial_all_yes;
      trial_numbers_lem = trial_numbers_lem;
      trial_refused = λ N m n top o o' r says.
          ((trial_told says).number, (trial_told says).place, (trial_told says).refused);
      trial_accepted = trial_accepted;
      trial_sold = trial_sold;
      trial_record = trial_record;
      trial_capped = trial_capped;
      text_says = text_says;
      text_longest = text_longest;
      text_typed = text_typed;
    }
