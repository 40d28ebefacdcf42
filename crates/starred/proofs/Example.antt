-- The example is printed as rule 6.5 has it, and table 3 by the same rules (`example`), by computing.
use mathlib.Core.Path.{refl}
use Rattle.sheet.specs.Sheets.{worths_in}
use Rattle.sheet.specs.Questions.{sheet_fault, lines_fault, first_wrong}
use Rattle.offers.specs.Rounds.{start_prices, sets_from, prices_from}
use Rattle.offers.specs.Rounds.{raised, sale_sets, last_prices, owners_by, discount_for, payment_for}
use Rattle.offers.specs.Places.{per_buyer}
use Rattle.sale.specs.Answers.{settled_sale}
use Rattle.printed.specs.Printed.{printed_sale}
use Rattle.starred.specs.Example.{Example}

pub example : Example
unfolding
    worths_in sheet_fault lines_fault first_wrong per_buyer start_prices sets_from prices_from raised sale_sets
    last_prices owners_by discount_for payment_for
    settled_sale printed_sale
example = (refl, refl)
