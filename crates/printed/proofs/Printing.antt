-- The two ways out of printing a sale: a refusal, and a settled sale.
use mathlib.Core.Path.{◌≡◌, sym, ap, subst, ◌∙◌}
use mathlib.Core.Logic.{◌≢◌}
use mathlib.Core.List.{List}
use Prim.Native.Nat.{ℕ, ◌<◌}
use borrow.Author.Tests.{eq-eqb, ne_eqb, eqb-false}
use Rattle.theory.specs.Sums.{pick}
use Rattle.sheet.specs.declared.Fault.{Fault}
use Rattle.sheet.specs.declared.Refusal.{Refusal}
use Rattle.sheet.specs.Refusals.{fault_of}
use Rattle.reading.proofs.Reading.{refused_no}
use Rattle.sale.specs.declared.Sale.{Sale}
use Rattle.sale.specs.Answers.{refused_sale, SaleSays}
use Rattle.printed.specs.Printed.{settled_text, refused_text, printed, Puts, PrintSays}
use Rattle.printed.proofs.Fits.{prints_fit}

module _ (b o o' : List ℕ) (r : Sale) (says : SaleSays b o o' r) (t t' : List ℕ) (k : ℕ) where
  told : (x : List ℕ) → x ≡ printed r → Puts x t t' k → PrintSays b o o' t t' k
  told x e puts =
      record { bytes = says.bytes; prints = subst (λ y. Puts y t t' k) (e ∙ ap printed says.answer) puts }

  pub print_refused : r.number ≢ 0 → Puts (refused_text r.number r.place) t t' k → PrintSays b o o' t t' k
  print_refused n puts =
      told _ (ap (λ x. pick x (settled_text r) (refused_text r.number r.place)) (sym (ne_eqb r.number 0 n))) puts

  pub print_settled : r.number ≡ 0 → Puts (settled_text r) t t' k → PrintSays b o o' t t' k
  print_settled z puts =
      told _ (ap (λ x. pick x (settled_text r) (refused_text r.number r.place)) (sym (eq-eqb r.number 0 z))) puts

-- a refusal, by its number and place
module _ (b o o' : List ℕ) (r : Refusal) (f : Fault) (e : f ≡ fault_of r)
    (says : SaleSays b o o' (refused_sale (fault_of r))) where
  again : SaleSays b o o' (refused_sale f)
  again = subst (λ g. SaleSays b o o' (refused_sale g)) (sym e) says

  pub place_fits : f.place < 1000000
  unfolding refused_sale
  place_fits = (prints_fit b o o' (refused_sale f) again).place

  numbered : f.number ≢ 0
  numbered z = eqb-false (fault_of r).number 0 (refused_no r) (ap (λ (g : Fault). g.number) (sym e) ∙ z)

  pub print_fault : (t t' : List ℕ) (k : ℕ) → Puts (refused_text f.number f.place) t t' k → PrintSays b o o' t t' k
  unfolding refused_sale
  print_fault t t' k puts = print_refused b o o' (refused_sale f) again t t' k numbered puts
