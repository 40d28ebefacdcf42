-- The starred sales are as section 7 of the rules has them: all rows of one table (`starred`), by computing.
use mathlib.Core.Path.{refl}
use Rattle.sheet.specs.Sheets.{worths_in}
use Rattle.sheet.specs.Questions.{sheet_fault, lines_fault, first_wrong}
use Rattle.sheet.specs.Answers.{worths_by, worths_read, sheet_read}
use Rattle.offers.specs.Rounds.{start_prices, sets_from, prices_from}
use Rattle.offers.specs.Rounds.{raised, sale_sets, last_prices, owners_by, discount_for, payment_for, direct_owners}
use Rattle.offers.specs.Rounds.{direct_payment}
use Rattle.offers.specs.Places.{per_buyer}
use Rattle.sale.specs.Answers.{refused_sale, settled_sale, sale_answer, sale_record}
use Rattle.direct.specs.Answers.{refused_direct, reckoned, direct_answer}
use Rattle.starred.specs.Starred.{Starred}

pub starred : Starred
unfolding
    worths_in sheet_fault lines_fault first_wrong per_buyer start_prices sets_from prices_from raised sale_sets
    last_prices owners_by discount_for payment_for
    worths_by worths_read sheet_read refused_sale settled_sale sale_answer sale_record direct_owners direct_payment refused_direct
    reckoned direct_answer
starred = refl
