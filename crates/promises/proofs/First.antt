-- Demand 1 (`refusals_hold`): which numbers and places an entry can answer (`numbered`), that 0 means accepted, and
-- what a refusal says.
use mathlib.Core.Path.{◌≡◌, refl, sym, ap, subst, ◌∙◌}
use mathlib.Core.Logic.{◌≢◌, ◌⊎◌, inl, inr}
use mathlib.Core.Bool.{Bool}
use mathlib.Core.List.{List, [], ◌∷◌}
use Prim.Native.Nat.{ℕ, ◌≤◌, ◌<◌}
use native.Mathlib.Omega.{arith}
use lib.Dec.{leb}
use lib.ListN.{length}
use borrow.Author.Tests.{eqb-true, eqb-false, ne_eqb}
use Rattle.theory.specs.Sums.{Among}
use Rattle.theory.proofs.Tests.{by_test, fails, Means, means_via, and_means, leb_means}
use Rattle.sheet.specs.Sheets.{sheet_of}
use Rattle.sheet.specs.declared.Fault.{Fault}
use Rattle.sheet.specs.Questions.{fault, accepts, onward, ask, between, sheet_fault}
use Rattle.sheet.specs.Claims.{Placed}
use Rattle.sheet.specs.Answers.{refusal, worths_by, worths_read, sheet_read}
use Rattle.sheet.proofs.Faults.{first_no, all_yes}
use Rattle.sheet.proofs.Theorems.{refusal_range, place_zero, place_inside, place_least}
use Rattle.sale.specs.declared.Sale.{Sale}
use Rattle.offers.specs.Offers.{offer_of}
use Rattle.offers.specs.Rounds.{round_limit}
use Rattle.offers.specs.Claims.{UCE}
use Rattle.sale.specs.Answers.{demand_answer, settled_sale, SaleSays}
use Rattle.sale.proofs.Claimed.{sales_hold}
use Rattle.direct.specs.declared.Direct.{Direct}
use Rattle.direct.specs.Answers.{direct_answer}
use Rattle.promises.specs.Claims.{Own, unplaced, AllYes, FirstNo, Numbered, Refusals}
use Rattle.sale.proofs.Opening.{sale_number, sale_place, sale_open, sale_closed}
use Rattle.sale.proofs.Opening.{demand_number, demand_place, demand_closed}
use Rattle.sale.proofs.Opening.{settled_number, settled_place, settled_closed}
use Rattle.direct.proofs.Opening.{direct-number, direct_place, direct_closed}

-- other numbers have no place
not_placed : (b : List ℕ) (k p : ℕ) → (k < 6) ⊎ (8 < k) → Placed b k p
not_placed b k p (inl h) = (λ e. absurd (omega arith), λ e. absurd (omega arith), λ e. absurd (omega arith))
not_placed b k p (inr h) = (λ e. absurd (omega arith), λ e. absurd (omega arith), λ e. absurd (omega arith))

-- an own question, with its test
pub record Tested : Type 1 where
  pub own : Own
  pub test : Bool
  pub means : Means test own.Yes
  pub high : 9 ≤ own.number
  pub placed : own.Place 0

-- the fault of some own questions, put in order
abbrev fault_of : List Tested → Fault
fault_of [] = fault 0 0
fault_of (q ∷ qs) = ask q.own.number q.test (λ _. fault_of qs)

abbrev owns : List Tested → List Own
owns [] = []
owns (q ∷ qs) = q.own ∷ owns qs

-- f is the fault of the first that gets a no
pub record Refused (own : List Own) (f : Fault) : Type 0 where
  pub first : FirstNo own f.number f.place
  pub not_all : AllYes own → ⊥
  pub high : 9 ≤ f.number
  pub place : f.place ≡ 0

-- all are answered yes, or one is the first that is not
put : (qs : List Tested) → (AllYes (owns qs) × (fault_of qs ≡ fault 0 0)) ⊎ Refused (owns qs) (fault_of qs)
put [] = inl (tt, refl)
put (q ∷ qs) =
    by_test q.test
    (λ t.
    let yes = q.means.0 t in
    let on : fault_of (q ∷ qs) ≡ fault_of qs = rw t refl in
    elim (put qs) [
      | inl (all, none) ↦ inl ((yes, all), on ∙ none)
      | inr r ↦
          inr (subst (Refused (owns (q ∷ qs))) (sym on) (record {
            first = inr (yes, r.first);
            not_all = λ all. r.not_all all.1;
            high = r.high;
            place = r.place;
          }))
    ])
    (λ t.
    let no : q.own.Yes → ⊥ = λ y. fails (q.means.1 y) t in
    let here : fault_of (q ∷ qs) ≡ fault q.own.number 0 = rw t refl in
    inr (subst (Refused (owns (q ∷ qs))) (sym here) (record {
      first = inl (no, refl, q.placed);
      not_all = λ all. no all.0;
      high = q.high;
      place = refl;
    })))

-- the sheet's fault, none, or that of the entry's own questions
module _ (b : List ℕ) (qs : List Tested) where
  abbrev f : Fault
  f = onward (accepts (sheet_fault b)) (λ _. fault_of qs) (sheet_fault b)

  refused_first : (sheet_fault b).number ≢ 0 → Numbered b (owns qs) (sheet_fault b).number (sheet_fault b).place
  refused_first h =
      record {
        accepts = (λ z. absurd (h z), λ y. absurd (h ((all_yes b).1 y.0)));
        first_no = λ k l _. first_no b k l;
        range = inl (refusal_range b);
        no_place = place_zero b;
        a_place = λ l _. place_inside b l;
        least_place = place_least b;
      }

  module _ (z : (sheet_fault b).number ≡ 0) where
    accepted : AllYes (owns qs) → Numbered b (owns qs) 0 0
    accepted y =
        record {
          accepts = (λ _. ((all_yes b).0 z, y), λ _. refl);
          first_no = λ k l _. (λ e. absurd (omega arith), λ c. absurd (c.1 ((all_yes b).0 z k)));
          range = inl (omega arith);
          no_place = λ _. refl;
          a_place = λ l _. absurd (omega arith);
          least_place = not_placed b 0 0 (inl (omega arith));
        }

    refused_last : Refused (owns qs) (fault_of qs) → Numbered b (owns qs) (fault_of qs).number (fault_of qs).place
    refused_last r =
        record {
          accepts = (λ e. absurd (omega (arith, r.high)), λ c. absurd (r.not_all c.1));
          first_no = λ k l g. (λ e. absurd (omega (arith, r.high)), λ c. absurd (c.1 ((all_yes b).0 z k)));
          range = inr ((all_yes b).0 z, r.first);
          no_place = λ _. r.place;
          a_place = λ l g. absurd (omega (arith, r.high));
          least_place = not_placed b (fault_of qs).number (fault_of qs).place (inr (omega (arith, r.high)));
        }

  pub numbered : Numbered b (owns qs) f.number f.place
  numbered =
      by_test (accepts (sheet_fault b))
      (λ t.
      let z = eqb-true (sheet_fault b).number 0 t in
      elim (put qs) [ inl (all, none) ↦ rw (t, none) (accepted z all) | inr r ↦ rw t (refused_last z r) ])
      (λ t. rw t (refused_first (eqb-false (sheet_fault b).number 0 t)))

-- no question of its own
numbered_plain : (b : List ℕ) → Numbered b [] (sheet_fault b).number (sheet_fault b).place
numbered_plain b =
    by_test (accepts (sheet_fault b))
    (λ t. let z = eqb-true (sheet_fault b).number 0 t in rw (z, place_zero b (omega arith)) (accepted b [] z tt))
    (λ t. refused_first b [] (eqb-false (sheet_fault b).number 0 t))

between_means : (m i : ℕ) → Means (between m i) (Among m 1 i)
between_means m i =
    means_via (and_means (leb_means 1 i) (leb_means i m)) (λ c. omega arith) (λ r. (omega arith, omega arith))

same_numbers : {b : List ℕ} {own : List Own} {n n' p p' : ℕ} → n ≡ n' → p ≡ p' → Numbered b own n' p' →
    Numbered b own n p
same_numbers en ep a = rw (en, ep) a

-- a question whose place is 0
abbrev tested : (k : ℕ) → 9 ≤ k → {Yes : Type 0} (t : Bool) → Means t Yes → Tested
tested k high {Yes} t means =
    record { own = unplaced k Yes; test = t; means = means; high = high; placed = refl }

demand_numbers : (b : List ℕ) (i : ℕ) (ps : List ℕ) →
    Numbered b (unplaced 10 (Among (sheet_of b).buyers 1 i) ∷ []) (demand_answer b i ps).number
    (demand_answer b i ps).place
demand_numbers b i ps =
    same_numbers (demand_number b i ps) (demand_place b i ps)
    (numbered b
    (tested 10 (omega arith) (between (sheet_of b).buyers i) (between_means (sheet_of b).buyers i) ∷ []))

sale_numbers : (b o o' : List ℕ) (r : Sale) → SaleSays b o o' r →
    Numbered b (unplaced 9 (round_limit (offer_of b) ≤ length o) ∷ []) r.number r.place
sale_numbers b o o' r says =
    same_numbers (sale_number b o o' r says) (sale_place b o o' r says)
    (numbered b
    (tested 9 (omega arith) (leb (round_limit (offer_of b)) (length o))
    (leb_means (round_limit (offer_of b)) (length o)) ∷ []))

settled_uce : (b o o' : List ℕ) (r : Sale) → SaleSays b o o' r → r.number ≡ 0 → UCE (offer_of b) r.prices
unfolding settled_sale
settled_uce b o o' r says z =
    let open' = sale_open b o o' r says z in
    subst (λ ps. UCE (offer_of b) ps) (sym (ap (λ (s : Sale). s.prices) open'.answer))
    (sales_hold b open'.accepted).second.last_uce

direct-numbers : (b : List ℕ) (d : Direct) → d ≡ direct_answer b → Numbered b [] d.number d.place
direct-numbers b d e = same_numbers (direct-number b d e) (direct_place b d e) (numbered_plain b)

read_again : (b : List ℕ) → (worths_read b).number ≢ 0 → worths_read b
    ≡ refusal (worths_read b).number (worths_read b).place
unfolding worths_read worths_by refusal
read_again b h = rw (ne_eqb (sheet_fault b).number 0 h)

sheet_again : (b : List ℕ) → let r = sheet_read b in r.number ≢ 0 →
    r ≡ record { number = r.number; place = r.place; buyers = 0; lots = 0 }
unfolding sheet_read worths_read worths_by
sheet_again b h = rw (ne_eqb (sheet_fault b).number 0 h)

pub refusals_hold : Refusals
unfolding sheet_read worths_read worths_by
refusals_hold =
    record {
      reads = numbered_plain;
      reads_worths = numbered_plain;
      reads_refused = sheet_again;
      reads_worths_refused = read_again;
      demands = demand_numbers;
      demands_refused = demand_closed;
      settles = λ b ps. same_numbers (settled_number b ps) (settled_place b ps) (numbered_plain b);
      settles_refused = settled_closed;
      sells = sale_numbers;
      sells_settled = settled_uce;
      sells_refused = sale_closed;
      directs = direct-numbers;
      directs_refused = direct_closed;
    }
