-- `raising::common` meets its contract.
use Rattle.std.proofs.Common.{arith, refl}
use lib.Bits.{bit_and, and_le_r}
use lib.Count.{ones-le}
use Rattle.raising.proofs.Counting.{common_is}
use Rattle.raising.proofs.common.Goals as goal

pub returns : goal.returns
returns c =
    let x = c.args.set in
    let n = c.args.other in
    record { few = ones-le 6 (bit_and n x) (omega (arith, and_le_r n x)); is = λ m h. common_is x n _ m refl h }
