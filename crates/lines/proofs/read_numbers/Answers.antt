-- `lines::read_numbers` meets its contract.
use Rattle.std.proofs.Common.{◌/◌, ◌%◌, rules}
use Rattle.sheet.specs.Sheets.{worth_place, worths_in}
use Rattle.theory.proofs.Arrays.{made_by}
use Rattle.lines.proofs.read_numbers.Goals as goal

pub returns : goal.returns
unfolding worths_in
returns c =
    let z = c.args in
    made_by _ (λ k. worth_place z.size.buyers z.size.lots z.sheet.now (k / 16) (k % 16)) 96 _
    (λ i y d h call. search rules) c.from_fn.result c.from_fn.ensures.items
