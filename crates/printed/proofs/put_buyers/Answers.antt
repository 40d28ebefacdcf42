use Rattle.std.proofs.Common.{[], ◌∷◌, ◌+◌, get_or, refl, ap, ◌∙◌, arith}
use Rattle.fields.proofs.Lines.{line-length}
use Rattle.owners.specs.Prices.{buyer_rows, price}
use Rattle.tables.proofs.Tables.{entry-price}
use Rattle.printing.proofs.Lines.{lines_more}
use Rattle.printed.specs.Printed.{buyer_line}
use Rattle.printed.proofs.put_buyers.Goals as goal

pub loop-i-preserved : goal.loop-i-preserved
loop-i-preserved c =
    let r = c.args.r.now in
    let f = buyer_line r in
    let l = c.loop-i in
    let s = c.bundle_of-s in
    let cost =
    c.entry-p.ensures.is ∙ entry-price r.prices (l.i + 1) s.result (omega arith)
    ∙ ap (price (buyer_rows 6) r.prices (l.i + 1)) s.ensures.is in
    lines_more f 25 (λ k. line-length (f k)) c.args.out.now l.i l.out l.invariant (omega arith) _ refl _ _
    (ap (λ x. (l.i + 1) ∷ x ∷ get_or r.discounts l.i 0 ∷ get_or r.payments l.i 0 ∷ []) cost) c.put_line.ensures
