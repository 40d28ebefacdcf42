use Rattle.std.proofs.Common.{◌≡◌, ◌-◌, ◌*◌, ◌^◌, arith, ap}
use Rattle.printing.proofs.Lines.{lines_more}
use Rattle.sheet.specs.Sheets.{line_length, line_worths}
use Rattle.sheet.proofs.Writing.{row_long}
use Rattle.writing.specs.Lists.{list_sheet}
use Rattle.writing.proofs.Rows.{lines_within, row_fits, row_is, row_small}
use Rattle.writing.proofs.put_rows.Goals as goal

pub put_line-requires : goal.put_line-requires
put_line-requires c =
    let z = c.args.size in
    let size : c.bundles-row.result - 1 ≡ 2 ^ z.lots - 1 = ap (λ x. x - 1) c.bundles-row.ensures.is in
    let wide = c.line_length-wide.ensures.is in
    let room = lines_within _ _ _ c.requires.0 _ _ size wide _ _ c.requires.1 c.loop-i-test.true in (
      row_fits _ _ _ c.requires.0 _ _ size wide _ c.loop-i-test.true c.loop-i.out (omega (arith, c.loop-i.auto.out, room)),
      row_small _ _ _ c.requires.0 _ _ size wide _ c.loop-i-test.true,
    )

pub loop-i-preserved : goal.loop-i-preserved
loop-i-preserved c =
    let z = c.args.size in
    let size : c.bundles-row.result - 1 ≡ 2 ^ z.lots - 1 = ap (λ x. x - 1) c.bundles-row.ensures.is in
    let wide = c.line_length-wide.ensures.is in
    let room = lines_within _ _ _ c.requires.0 _ _ size wide _ _ c.requires.1 c.loop-i-test.true in
    let at = ap (λ x. x * c.loop-i.i) wide in
    let w = list_sheet z.buyers z.lots c.args.worths.now in
    lines_more (line_worths w) (line_length z.lots) (row_long w) c.args.out.now c.loop-i.i c.loop-i.out
    c.loop-i.invariant (omega (arith, wide, at, room)) _ at _ _
    (row_is _ _ _ c.requires.0 _ _ size wide _ c.loop-i-test.true) c.put_line.ensures
