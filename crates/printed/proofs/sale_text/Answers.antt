-- `printed::sale_text` meets its contract.
use Rattle.std.proofs.Common.{refl, arith}
use Rattle.printed.proofs.Texts.{text_told}
use Rattle.printed.proofs.sale_text.Goals as goal

pub returns : goal.returns
returns c = text_told _ _ _ _ _ _ c.print_sale-length.ensures (omega arith) refl refl
