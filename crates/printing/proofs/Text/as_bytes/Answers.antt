-- `printing::Text::as_bytes` meets its contract.
use Rattle.std.proofs.Common.{refl}
use Rattle.printing.proofs.Text.as_bytes.Goals as goal

pub returns : goal.returns
returns g c = refl
