-- Demand 2, of a settled sale's answer and record (`records_hold`).
use mathlib.Core.Path.{◌≡◌, ap, ◌∙◌}
use native.Mathlib.Omega.{arith}
use lib.ListN.{length, get_or}
use Rattle.theory.proofs.Over.{over_early, over_late, over_long}
use Rattle.offers.specs.Offers.{offer_of}
use Rattle.sale.specs.declared.Sale.{Sale}
use Rattle.offers.specs.Rounds.{sale_sets}
use Rattle.sale.specs.Answers.{settled_sale}
use Rattle.sale.proofs.Claimed.{sales_hold}
use Rattle.promises.specs.Claims.{Records}
use Rattle.sale.proofs.Opening.{sale_open}

pub records_hold : Records
unfolding settled_sale
records_hold b o o' r says z =
    let open' = sale_open b o o' r says z in
    let O = offer_of b in
    let claims = sales_hold b open'.accepted in
    let rounds : r.rounds ≡ length (sale_sets O) = ap (λ (s : Sale). s.rounds) open'.answer in
    record {
      claimed = claims;
      rounds = rounds;
      sets = λ k h. ap (λ l. get_or l k 0) open'.bytes ∙ over_early (sale_sets O) o k (omega (arith, rounds));
      later = λ k h. ap (λ l. get_or l k 0) open'.bytes ∙ over_late (sale_sets O) o k (omega (arith, rounds));
      long = ap length open'.bytes
          ∙ over_long (sale_sets O) o (omega (arith, claims.second.few_rounds, open'.room));
      prices = ap (λ (s : Sale). s.prices) open'.answer;
    }
