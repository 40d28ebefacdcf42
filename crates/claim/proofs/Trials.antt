-- Trial sheets: the page's draws are the generator's (`draw_same`); what `trial_sheet` answers, refused or not
-- (`trial_claim`), that a trial sheet's sale settles (`tried`), and what is printed of four numbers (`trial_typed`,
-- `trial_untyped`).
use mathlib.Core.Path.{◌≡◌, refl, sym, ap, subst, ◌∙◌}
use mathlib.Core.Logic.{◌≢◌, ◌↔◌, inl, inr}
use mathlib.Core.List.{List, [], ◌∷◌, ◌++◌}
use Prim.Native.Nat.{ℕ, zero, suc, min, ◌+◌, ◌-◌, ◌*◌, ◌%◌, ◌^◌, ◌≤◌, ◌<◌}
use native.Mathlib.Numerals.{add-one}
use native.Mathlib.Omega.{arith}
use native.Mathlib.Decide.{ℕ_discrete}
use lib.ListN.{length, take, drop, get_or, replicate}
use Rattle.numbers.proofs.Subsets.{bit_below}
use Rattle.fields.specs.Fields as fields
use Rattle.printing.proofs.Fours.{two_small}
use Rattle.generator.specs.declared.Generator.{Generator}
use Rattle.generator.specs.Xorwow as xorwow
use Rattle.sale.specs.declared.Sale.{Sale}
use Rattle.sale.specs.Answers.{SaleSays}
use Rattle.writing.specs.declared.Wrote.{Wrote}
use Rattle.trial.specs.Worths.{most_fewer, trial_table, trial_list}
use Rattle.trial.specs.Answers.{trial_fault, TrialSays, trial_text, trial_text_of}
use Rattle.trial.specs.Claims.{question_numbers, TrialQuestion, Typed}
use Rattle.trial.proofs.Tables.{fewer_upper, fewer_reached, trial_worth, list-worth}
use Rattle.trial.proofs.Questions.{trial_first_no, trial_numbers_lem, trial_range}
use Rattle.trial.proofs.Answers.{trial_told, told_writes}
use Rattle.trial.proofs.Sold.{trial_sold, trial_record}
use Rattle.trial.proofs.Texts.{text_says, text_typed}
use Rattle.claim.specs.Claim.{Between, line, Words, drawn, answered, after, draw}
use Rattle.claim.specs.Claim.{MostFewer, Untried, TrialClaim}
use Rattle.claim.specs.Claim.Words.{words}
use Rattle.claim.specs.Claim.Untried.{bad_buyers, bad_lots, high_top, no_room}
use Rattle.claim.proofs.Numbers.{has_means}
use Rattle.claim.proofs.Columns.{line_same}
use Rattle.claim.proofs.Writing.{by_line, ends, write_claim, fields_line}

-- the generator's words
abbrev words_of : Generator → Words
words_of g = words g.x g.y g.z g.w g.v g.d

after_same : (k : ℕ) → after k ≡ words_of (xorwow.after k)
unfolding xorwow.start xorwow.drawn
after_same zero = refl
after_same (suc k) = ap drawn (after_same k)

draw_same : (k : ℕ) → draw (suc k) ≡ xorwow.draw_number (suc k)
unfolding xorwow.drawn
draw_same k = ap answered (after_same (suc k))

module _ (m n top room : ℕ) where
  abbrev number : ℕ
  number = (trial_fault m n top room).number

  untried : (j : ℕ) → j < 4 → ((i : ℕ) → i < j → TrialQuestion m n top room i) → (TrialQuestion m n top room j → ⊥) →
      Untried m n top room (get_or question_numbers j 0)
  untried zero h before there = bad_buyers there
  untried (suc zero) h before there = bad_lots (before 0 (omega arith)) there
  untried (suc (suc zero)) h before there =
      high_top (before 0 (omega arith)) (before 1 (omega arith)) (omega (arith, there))
  untried (suc (suc (suc zero))) h before there =
      no_room (before 0 (omega arith)) (before 1 (omega arith)) (before 2 (omega arith))
      (omega (arith, ends m n [] room, there))
  untried (suc (suc (suc (suc j)))) h before there = absurd (omega arith)

  more_yes : (j : ℕ) → ((i : ℕ) → i < j → TrialQuestion m n top room i) → TrialQuestion m n top room j →
      (i : ℕ) → i < suc j → TrialQuestion m n top room i
  more_yes j before q i h =
      elim (ℕ_discrete j i) [ yes e ↦ subst (TrialQuestion m n top room) e q | no e ↦ before i (omega arith) ]

  none_yes : (i : ℕ) → i < 0 → TrialQuestion m n top room i
  none_yes i h = absurd (omega arith)

  told : (k : ℕ) → Untried m n top room k → number ≡ k
  told k (bad_buyers no_then) = (trial_first_no m n top room 0 (omega arith)).1 (none_yes, no_then)
  told k (bad_lots b no_then) = (trial_first_no m n top room 1 (omega arith)).1 (more_yes 0 none_yes b, no_then)
  told k (high_top b l h) =
      (trial_first_no m n top room 2 (omega arith)).1 (more_yes 1 (more_yes 0 none_yes b) l, λ q. omega arith)
  told k (no_room b l t h) =
      (trial_first_no m n top room 3 (omega arith)).1
      (more_yes 2 (more_yes 1 (more_yes 0 none_yes b) l) t, λ q. omega (arith, ends m n [] room))

  refuses : (k : ℕ) → k ≢ 0 → (number ≡ k) ↔ Untried m n top room k
  refuses k some = (
    λ e. elim (trial_numbers_lem m n top room) [
      | inl z ↦ absurd (some (sym e ∙ z))
      | inr (j, h, is) ↦
          let (before, there) = (trial_first_no m n top room j h).0 is in
          subst (Untried m n top room) (sym is ∙ e) (untried j h before there)
    ],
    told k,
  )

-- worths that are those of the table, up to the line: each is drawn as the page says
module _ (z n top i : ℕ) (v : ℕ → ℕ) (same : (s : ℕ) → s < 2 ^ n → v s ≡ trial_table z n top i s) where
  abbrev t : ℕ → ℕ
  t = trial_table z n top i

  worth-drawn : (s : ℕ) → Between 1 (2 ^ n - 1) s → (u : ℕ) × (MostFewer v s u
      × (v s ≡ min 9999 (u + draw (100 * z + (i * (2 ^ n - 1) + s)) % (top + 1))))
  worth-drawn zero h = absurd (omega arith)
  worth-drawn (suc c) h =
      let below : suc c < 2 ^ n = omega arith in
      let (j, b, is) = fewer_reached n t (suc c) (omega arith) below in
      let less : (k : ℕ) → v (suc c - 2 ^ k) ≡ t (suc c - 2 ^ k) = λ k. same (suc c - 2 ^ k) (omega arith) in
      let place : 100 * z + (i * (2 ^ n - 1) + suc c) ≡ suc (100 * z + (i * (2 ^ n - 1) + c)) = omega arith in
      let number = ap draw place ∙ draw_same (100 * z + (i * (2 ^ n - 1) + c)) ∙ sym (ap xorwow.draw_number place) in (
        most_fewer n t (suc c),
        (
          (
            (j, ((has_means j (suc c)).0 b, is ∙ sym (less j))),
            λ k has.
                let b = (has_means k (suc c)).1 has in
                omega (arith, less k, fewer_upper n t (suc c) k (bit_below n k (suc c) below b) b),
          ),
          same (suc c) below ∙ trial_worth z n top i c
              ∙ ap (λ x. min 9999 (most_fewer n t (suc c) + x % suc top)) (sym number)
              ∙ ap (λ x. min 9999 (most_fewer n t (suc c) + draw (100 * z + (i * (2 ^ n - 1) + suc c)) % x))
              (sym (add-one top)),
        ),
      )

pub trial_claim : (z m n top : ℕ) (x x' : List ℕ) (w : Wrote) → TrialSays z m n top x x' w → TrialClaim z m n top x x' w
trial_claim z m n top x x' w says =
    let is = (trial_told says).number in
    let l = trial_list z m n top in
    record {
      refuses = λ k some.
          let (to, from) = refuses m n top (length x) k some in
          (λ e. to (sym is ∙ e), λ u. is ∙ from u);
      place = (trial_told says).place;
      written = λ none.
          let (b, (y, (em, en, same, long, fits, bytes))) =
          (write_claim m n l x x' w (told_writes says none)).written none in (
            b,
            (
              y,
              (
                em,
                en,
                λ i s h r. worth-drawn z n top (i - 1) (y.v i) (λ t g. same i t h g ∙ by_line m n l i t
                    ∙ list-worth z m n top (i - 1) t (omega arith) g) s r,
                long,
                fits,
                bytes,
              ),
            ),
          );
      nothing = (trial_told says).refused;
    }

pub tried : (z m n top : ℕ) (x x' o o' : List ℕ) (w : Wrote) (r : Sale) → TrialSays z m n top x x' w → w.number ≡ 0 →
    59994 ≤ length o → SaleSays (take w.length x') o o' r → r.number ≡ 0
tried z m n top x x' o o' w r says none long sale =
    trial_sold z m n top x x' w says none o o' r sale (omega (arith, trial_record z m n top x x' w says none))

pub trial_typed : (z m n top : ℕ) (b x x' : List ℕ) (w : Wrote) → b ++ (10 ∷ []) ≡ line (z ∷ m ∷ n ∷ top ∷ []) →
    z ≤ 65535 → ((k : ℕ) → get_or (m ∷ n ∷ top ∷ []) k 0 ≤ 999999) → 559 ≤ length x → TrialSays z m n top x x' w →
    (text : List ℕ) × (((trial_text_of b).length ≡ length text)
    × ((trial_text_of b).bytes ≡ text ++ drop (length text) (replicate 559 0))
    × (w.number ≡ 0 → text ≡ take w.length x') × (w.number ≢ 0 → text ≡ line (w.number ∷ 0 ∷ [])))
trial_typed z m n top b x x' w e low small long says =
    let l = z ∷ m ∷ n ∷ top ∷ [] in
    let typed : Typed b z m n top =
    record { bytes = fields_line b l e all_small; number = low; small = (small 0, small 1, small 2) } in
    let (_, written, refused) = text_says b z m n top typed x x' w long says in
    let is = (trial_told says).number in
    let none = (trial_told says).place in (
      trial_text b,
      (
        refl,
        refl,
        written,
        λ h. refused h ∙ ap (λ p. fields.line_of (w.number ∷ p ∷ [])) none
            ∙ sym (line_same (w.number ∷ 0 ∷ []) (λ k.
            omega (arith, two_small 1000000 w.number 0 (omega (arith, is, few)) (omega arith) k))),
      ),
    )
  where
    all_small : (k : ℕ) → get_or (z ∷ m ∷ n ∷ top ∷ []) k 0 ≤ 999999
    all_small zero = omega arith
    all_small (suc k) = small k

    few : (trial_fault m n top (length x)).number ≤ 11
    few = trial_range m n top (length x)

pub trial_untyped : (b : List ℕ) → 0 < (trial_text_of b).length → (z : ℕ) × ((m : ℕ) × ((n : ℕ) × ((top : ℕ)
    × ((z ≤ 65535) × (b ++ (10 ∷ []) ≡ line (z ∷ m ∷ n ∷ top ∷ []))))))
trial_untyped b some =
    let (z, (m, (n, (top, typed)))) = text_typed b some in
    let l = z ∷ m ∷ n ∷ top ∷ [] in
    let told = ap (λ c. c ++ (10 ∷ [])) typed.bytes ∙ sym (line_same l (all_small z m n top typed)) in
    (z, (m, (n, (top, (typed.number, told)))))
  where
    all_small : (z m n top : ℕ) → Typed b z m n top → (k : ℕ) → get_or (z ∷ m ∷ n ∷ top ∷ []) k 0 ≤ 999999
    all_small z m n top t zero = omega (arith, t.number)
    all_small z m n top t (suc zero) = t.small.0
    all_small z m n top t (suc (suc zero)) = t.small.1
    all_small z m n top t (suc (suc (suc zero))) = t.small.2
    all_small z m n top t (suc (suc (suc (suc k)))) = omega arith
