-- `writing::table_of` meets its contract.
use Rattle.std.proofs.Common.{rules}
use Rattle.theory.proofs.Arrays.{made_by}
use Rattle.sheet.specs.Tables.{cell_at, cells}
use Rattle.writing.specs.Lists.{listed}
use Rattle.writing.proofs.table_of.Goals as goal

pub returns : goal.returns
unfolding cells
returns c =
    let z = c.args in
    made_by _ (cell_at z.size.buyers z.size.lots (listed z.size.lots z.worths.now)) 96 _
    (λ i y d h call. search rules) _ c.from_fn.ensures.items
