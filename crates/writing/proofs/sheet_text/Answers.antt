-- `writing::sheet_text` meets its contract.
use Rattle.std.proofs.Common.{◌≡◌, take, arith, ap, ◌∙◌}
use Rattle.writing.specs.Answers.{typed_list}
use Rattle.writing.proofs.Texts.{first-list, place_none, text_told}
use Rattle.writing.proofs.sheet_text.Goals as goal
use Rattle.writing.proofs.sheet_text.Goals.{After-write_sheet-wrote}

-- the worths that are written
list-is : (c : After-write_sheet-wrote) →
    take c.typed_count-count.result c.typed_worths-worths.result ≡ take 91 (typed_list c.args.numbers.now)
list-is c =
    ap (take c.typed_count-count.result) c.typed_worths-worths.ensures
    ∙ first-list c.args.numbers.now c.typed_count-count.result c.typed_count-count.ensures.is

pub text-requires : goal.text-requires
text-requires c =
    let none = place_none c.args.numbers.now _ _ _ _ c.write_sheet-wrote.result c.typed_at.ensures c.typed_at-2.ensures
    (list-is (goal.at.text-requires c).After-write_sheet-wrote) c.write_sheet-wrote.ensures in
    omega (arith, none)

pub returns : goal.returns
returns c =
    c.text.ensures
    ∙ text_told c.args.numbers.now _ _ _ _ c.write_sheet-wrote.result c.typed_at.ensures c.typed_at-2.ensures
    (list-is (goal.at.returns c).After-write_sheet-wrote) c.write_sheet-wrote.ensures
