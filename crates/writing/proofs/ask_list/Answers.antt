-- `writing::ask_list` meets its contract.
use Rattle.std.proofs.Common.{sym, ◌∙◌, rules}
use Rattle.writing.proofs.Asking.{size_bad, count_fault, large_fault, falling_fault, room_fault, no_fault}
use Rattle.writing.proofs.ask_list.Goals as goal

pub returns-in_err-size-clause-fault : goal.returns-in_err-size-clause-fault
returns-in_err-size-clause-fault c =
    let z = c.args in
    let e = size_bad z.buyers z.lots z.worths.now z.room c.in_err-size.field-0.0 c.in_err-size.ensures.fault in
    search rules

pub returns-then-worths-size-clause-fault : goal.returns-then-worths-size-clause-fault
returns-then-worths-size-clause-fault c =
    let z = c.args in
    let s = c.in_ok-size in
    count_fault z.buyers z.lots s.size s.ensures.size s.ensures.fault z.worths.now z.room _ c.bundles.ensures.is
    c.if-worths-size.true

pub returns-then-is_some-clause-fault : goal.returns-then-is_some-clause-fault
returns-then-is_some-clause-fault c =
    let z = c.args in
    let s = c.in_ok-size in
    large_fault z.buyers z.lots s.size s.ensures.size s.ensures.fault z.worths.now z.room _ c.bundles.ensures.is
    c.if-worths-size.false _ c.table_of-numbers.ensures _ c.first_large.ensures
    (sym c.is_some.ensures ∙ c.if-is_some.true)

pub returns-then-is_some-2-clause-fault : goal.returns-then-is_some-2-clause-fault
returns-then-is_some-2-clause-fault c =
    let z = c.args in
    let s = c.in_ok-size in
    falling_fault z.buyers z.lots s.size s.ensures.size s.ensures.fault z.worths.now z.room _ c.bundles.ensures.is
    c.if-worths-size.false _ c.table_of-numbers.ensures _ c.first_large.ensures
    (sym c.is_some.ensures ∙ c.if-is_some.false) _ c.first_falling.ensures
    (sym c.is_some-2.ensures ∙ c.if-is_some-2.true)

pub returns-then-room-sheet_length-clause-fault : goal.returns-then-room-sheet_length-clause-fault
returns-then-room-sheet_length-clause-fault c =
    let z = c.args in
    let s = c.in_ok-size in
    room_fault z.buyers z.lots s.size s.ensures.size s.ensures.fault z.worths.now z.room _ c.bundles.ensures.is
    c.if-worths-size.false _ c.table_of-numbers.ensures _ c.first_large.ensures
    (sym c.is_some.ensures ∙ c.if-is_some.false) _ c.first_falling.ensures
    (sym c.is_some-2.ensures ∙ c.if-is_some-2.false) _ c.sheet_length.ensures.is c.if-room-sheet_length.true

pub returns-clause-fault : goal.returns-clause-fault
returns-clause-fault c =
    let z = c.args in
    let s = c.in_ok-size in
    no_fault z.buyers z.lots s.size s.ensures.size s.ensures.fault z.worths.now z.room _ c.bundles.ensures.is
    c.if-worths-size.false _ c.table_of-numbers.ensures _ c.first_large.ensures
    (sym c.is_some.ensures ∙ c.if-is_some.false) _ c.first_falling.ensures
    (sym c.is_some-2.ensures ∙ c.if-is_some-2.false) _ c.sheet_length.ensures.is c.if-room-sheet_length.false
