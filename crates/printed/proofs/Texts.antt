-- The text of a sheet: it is what is printed of its sale with any record that is long enough (`any_record`), it has 13
-- to 227 bytes (`shortest`, `longest`), and it depends on the first 560 bytes alone (`cut`). All that is claimed of
-- printing: `prints_all`. `text_told` is for the text as an answer.
use mathlib.Core.Path.{◌≡◌, refl, sym, ap, ap₂, subst, ◌∙◌}
use mathlib.Core.Logic.{◌≢◌, inl, inr}
use mathlib.Core.List.{List, [], ◌∷◌}
use Prim.Native.Nat.{ℕ, ◌≤◌}
use native.Mathlib.Omega.{arith}
use native.Mathlib.Decide.{dec_le, ℕ_discrete}
use lib.ListN.{length, take, drop, replicate, take-append-drop}
use lib.Seq.{take_all, length-take-le}
use lib.Dec.{eqb}
use borrow.Author.Tests.{eq-eqb, ne_eqb}
use Rattle.theory.specs.Sums.{pick}
use Rattle.theory.specs.Lists.{over}
use Rattle.theory.proofs.Tests.{by_test}
use Rattle.fields.proofs.Lines.{line-length}
use Rattle.sheet.specs.Questions.{accepts, onward, sheet_fault}
use Rattle.sheet.specs.declared.Fault.{Fault}
use Rattle.sheet.proofs.Faults.{all_yes}
use Rattle.sheet.proofs.Long.{long_refused, long_alike}
use Rattle.sale.specs.declared.Sale.{Sale}
use Rattle.offers.specs.Offers.{Offer, offer_of}
use Rattle.offers.specs.Rounds.{round_limit}
use Rattle.sale.specs.Answers.{settled_sale, refused_sale, sale_answer, sale_record, SaleSays}
use Rattle.offers.proofs.Lots.{shape}
use Rattle.sale.proofs.Opening.{sale_number}
use Rattle.promises.specs.Claims.{unplaced}
use Rattle.promises.proofs.First.{refusals_hold}
use Rattle.printed.specs.Printed.{printed, settled_text, refused_text, printed_sale, Puts, PrintSays, PrintsSale}
use Rattle.printed.specs.Printed.{text_of, Prints}
use Rattle.printed.proofs.Fits.{limit_low, sale_asked, sale_first, prints_fit, never_nine}
use Rattle.printed.proofs.Parts.{text_length}

printed_settled : (O : Offer) → printed (settled_sale O) ≡ settled_text (settled_sale O)
unfolding settled_sale
printed_settled O = refl

printed_refused : (f : Fault) → f.number ≢ 0 → printed (refused_sale f) ≡ refused_text f.number f.place
unfolding refused_sale
printed_refused f n =
    ap (λ x. pick x (settled_text (refused_sale f)) (refused_text f.number f.place)) (ne_eqb f.number 0 n)

pub shortest : (r : Sale) → 13 ≤ length (printed r)
shortest r =
    by_test (eqb r.number 0) (λ e. rw e (omega (arith, text_length r)))
    (λ e. rw e (omega (arith, line-length (r.number ∷ r.place ∷ []))))

module _ (b : List ℕ) where
  settled : (sheet_fault b).number ≡ 0 → printed_sale b ≡ settled_text (settled_sale (offer_of b))
  unfolding printed_sale
  settled z = rw (eq-eqb (sheet_fault b).number 0 z) refl

  refused : (sheet_fault b).number ≢ 0 → printed_sale b ≡ refused_text (sheet_fault b).number (sheet_fault b).place
  unfolding printed_sale
  refused n = rw (ne_eqb (sheet_fault b).number 0 n) refl

  pub any_record : (room : ℕ) → 59994 ≤ room → printed (sale_answer b room) ≡ printed_sale b
  unfolding sale_answer
  any_record room long =
      let f = sheet_fault b in
      let s = settled_sale (offer_of b) in
      elim (ℕ_discrete f.number 0) [
        | yes z ↦
            ap (λ g. printed (onward (accepts g) (λ _. s) (refused_sale g))) (sale_asked b room long z)
            ∙ printed_settled (offer_of b) ∙ sym (settled z)
        | no n ↦
            ap (λ g. printed (onward (accepts g) (λ _. s) (refused_sale g))) (sale_first b room long n)
            ∙ ap (λ x. printed (onward x (λ _. s) (refused_sale f))) (ne_eqb f.number 0 n) ∙ printed_refused f n
            ∙ sym (refused n)
      ]

  pub longest : length (printed_sale b) ≤ 227
  unfolding settled_sale
  longest =
      elim (ℕ_discrete (sheet_fault b).number 0) [
        | yes z ↦
            let long = text_length (settled_sale (offer_of b)) in
            omega (arith, ap length (settled z), long, (shape b z).few_buyers, (shape b z).few_lots)
        | no n ↦ omega (arith, ap length (refused n), line-length ((sheet_fault b).number ∷ (sheet_fault b).place ∷ []))
      ]

pub cut : (b : List ℕ) → printed_sale (take 560 b) ≡ printed_sale b
cut b =
    elim (dec_le (length b) 560) [
      | yes l ↦ ap printed_sale (take_all 560 b l)
      | no l ↦
          let a = take 560 b in
          let long : 560 ≤ length a = omega (arith, length-take-le 560 b (omega arith)) in
          let same : sheet_fault a ≡ sheet_fault b =
          sym (long_alike a (drop 560 b) long) ∙ ap sheet_fault (take-append-drop 560 b) in
          refused a (long_refused a long) ∙ ap (λ (f : Fault). refused_text f.number f.place) same
          ∙ sym (refused b (long_refused b (omega arith)))
    ]

-- a sale that is printed over 227 zeros, with 59,994 bytes of record
pub text_told : (b o o' t t' : List ℕ) (r : ℕ) → PrintSays b o o' t t' r → 59994 ≤ length o → length t ≡ 227 →
    t ≡ replicate 227 0 →
    record { bytes = t'; length = r } ≡ text_of b
text_told b o o' t t' r says long room zeros =
    let whole =
    (subst (λ x. Puts x t t' r) (any_record b (length o) long) says.prints).whole (omega (arith, longest b)) in
    ap₂ (λ x k. record { bytes = x; length = k }) (whole.1 ∙ ap (over (printed_sale b)) zeros) whole.0

-- demand 1
refused_print : (b o o' : List ℕ) (r : Sale) → SaleSays b o o' r → r.number ≢ 0 →
    (printed r ≡ refused_text r.number r.place) × (o' ≡ o)
refused_print b o o' r says n = (
  ap (λ x. pick x (settled_text r) (refused_text r.number r.place)) (ne_eqb r.number 0 n),
  (refusals_hold.sells_refused b o o' r says n).1,
)

print_numbered : (b o o' t t' : List ℕ) (k : ℕ) → PrintSays b o o' t t' k →
    (text : List ℕ) × PrintsSale b o o' (unplaced 9 (round_limit (offer_of b) ≤ length o) ∷ []) text × Puts text t t' k
print_numbered b o o' t t' k says =
    let r = sale_answer b (length o) in
    let sale : SaleSays b o o' r = record { answer = refl; bytes = says.bytes } in (
      printed r,
      record {
        answer = r;
        says = sale;
        numbered = refusals_hold.sells b o o' r sale;
        text_is = refl;
        refused = refused_print b o o' r sale;
      },
      says.prints,
    )

-- with 59,994 bytes of record no sale is refused by question 9
text_numbered : (b o : List ℕ) → 59994 ≤ length o → (o' : List ℕ) × PrintsSale b o o' [] (printed_sale b)
text_numbered b o long =
    let r = sale_answer b (length o) in
    let o' = sale_record b o in
    let sale : SaleSays b o o' r = record { answer = refl; bytes = refl } in
    let told = refusals_hold.sells b o o' r sale in
    let is : printed_sale b ≡ printed r = sym (any_record b (length o) long) in (
      o',
      record {
        answer = r;
        says = sale;
        numbered = record {
          accepts = (
            λ z. ((told.accepts.0 z).0, tt),
            λ (yes_to, _). told.accepts.1 (yes_to, (omega (arith, long, limit_low b ((all_yes b).1 yes_to)), tt)),
          );
          first_no = told.first_no;
          range = elim told.range [
            | inl h ↦ inl h
            | inr (yes_to, inl (_, nine, _)) ↦ absurd
                (never_nine b (length o) long (sym (sale_number b o o' r sale) ∙ nine))
            | inr (yes_to, inr (_, none)) ↦ absurd none
          ];
          no_place = told.no_place;
          a_place = told.a_place;
          least_place = told.least_place;
        };
        text_is = is;
        refused = λ n. let (text, kept) = refused_print b o o' r sale n in (is ∙ text, kept);
      },
    )

pub prints_all : Prints
prints_all =
    record {
      prints = print_numbered;
      texts = text_numbered;
      prints_fit = prints_fit;
      never_nine = never_nine;
      any_record = any_record;
      shortest = shortest;
      longest = longest;
      cut = cut;
    }
