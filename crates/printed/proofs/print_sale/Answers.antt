-- `printed::print_sale` meets its contract.
use Rattle.printed.proofs.Fits.{prints_fit}
use Rattle.printed.proofs.Printing.{place_fits, print_fault, print_settled}
use Rattle.printed.proofs.print_sale.Goals as goal
use Rattle.printed.proofs.print_sale.Goals.{in-Ok, in-Err}

pub put_settled-printed-requires : goal.put_settled-printed-requires
put_settled-printed-requires c = prints_fit _ _ _ _ c.in-Ok.ensures.says

pub put_refusal-printed-requires : goal.put_refusal-printed-requires
put_refusal-printed-requires c =
    place_fits c.args.sheet.now c.args.log.now c.try_sell.new.log c.in-Err.refusal c.from.result c.from.ensures
    c.in-Err.ensures.says

pub returns : goal.returns
returns c =
    elim c.match-try_sell.branch [
      | in-Ok w ↦
          rw (w.out-is, c.unwrap_or.ensures, w.printed-is)
          (print_settled _ _ _ _ w.in-Ok.ensures.says _ _ _ w.in-Ok.ensures.settled w.put_settled-printed.ensures)
      | in-Err w ↦
          rw (w.out-is, c.unwrap_or.ensures, w.printed-is)
          (print_fault c.args.sheet.now c.args.log.now c.try_sell.new.log w.in-Err.refusal w.from.result w.from.ensures
          w.in-Err.ensures.says _ _ _ w.put_refusal-printed.ensures)
    ]
