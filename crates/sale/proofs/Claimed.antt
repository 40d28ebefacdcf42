-- All that is claimed of an offer and its sale holds of accepted sheets (`sales_hold`); a sale has one answer
-- (`one_answer`); which prices are settled (`settled_answers`).
use mathlib.Core.Path.{sym, ap, ◌∙◌}
use mathlib.Core.Logic.{◌≢◌}
use mathlib.Core.Bool.{Bool}
use lib.Dec.{eqb}
use native.Mathlib.Omega.{arith}
use native.Mathlib.Decide.{ℕ_discrete}
use borrow.Author.Tests.{eqb-true, eq-eqb, ne_eqb}
use Rattle.sheet.specs.Sheets.{sheet_of}
use Rattle.sheet.specs.Questions.{sheet_fault}
use Rattle.offers.specs.Offers.{lots_of, offer_of, lowest}
use Rattle.offers.specs.Rounds.{prices_after}
use Rattle.offers.proofs.Lots.{allocated, regular}
use Rattle.offers.proofs.Claimed.{claimed}
use Rattle.offers.proofs.Present.{reads_present}
use Rattle.offers.proofs.Theorems.{settles}
use Rattle.sale.specs.declared.Settled.{Settled}
use Rattle.sale.specs.declared.Sale.{Sale}
use Rattle.sale.specs.Answers.{refused_settled, judged, settled_answer, settled_sale, OneAnswer, Sales}
use Rattle.sale.specs.Answers.{SettledAnswers}
use Rattle.sale.proofs.Opening.{sale_open, settled_number, settled_open}

pub sales_hold : Sales
sales_hold b accepted =
    let w = sheet_of b in
    claimed (lots_of w) (regular b accepted) (allocated w.buyers w.lots w.worths)

pub one_answer : OneAnswer
one_answer b o o₁ o₂ r₁ r₂ x y = (x.answer ∙ sym y.answer, x.bytes ∙ sym y.bytes)

-- an accepted sheet's answer
abbrev found : Bool → Settled
found t = record { number = 0; place = 0; settled = t }

pub settled_answers : SettledAnswers
unfolding refused_settled judged settled_answer settled_sale
settled_answers =
    record {
      settled_means = λ b ps prices z.
          let accepted = sym (settled_number b ps) ∙ z in
          let is = ap (λ (x : Settled). x.settled) (settled_open b ps accepted) in
          let (to, from) = ((sales_hold b accepted).at_prices ps prices).settled_iff_uce in
          (λ t. to (eqb-true _ _ (sym is ∙ t)), λ u. is ∙ eq-eqb _ _ (from u));
      settled_last = λ b o o' r says z.
          let open' = sale_open b o o' r says z in
          let last = ap (λ (s : Sale). s.prices) open'.answer in
          let O = offer_of b in
          settled_open b r.prices open'.accepted
          ∙ ap found (eq-eqb _ _ (ap (lowest O) last ∙ settles O (regular b open'.accepted)));
      unsettled_earlier = λ b o o' r says z k l.
          let open' = sale_open b o o' r says z in
          let O = offer_of b in
          let rounds = ap (λ (s : Sale). s.rounds) open'.answer in
          let set = (sales_hold b open'.accepted).second.lowest_set k (omega (arith, rounds)) in
          let not_zero : lowest O (prices_after O k) ≢ 0 = λ e. omega (arith, set) in
          settled_open b (prices_after O k) open'.accepted ∙ ap found (ne_eqb _ _ not_zero);
      settled_reads = λ b ps qs agree. elim (ℕ_discrete (sheet_fault b).number 0) [
        | yes z ↦
            settled_open b ps z
            ∙ ap (λ n. found (eqb n 0)) (reads_present (offer_of b) (regular b z) ps qs agree).chosen
            ∙ sym (settled_open b qs z)
        | no h ↦ rw (ne_eqb (sheet_fault b).number 0 h)
      ];
    }
