-- Writing a sheet: what `write_sheet` answers, refused or not (`write_claim`), that an accepted sheet is written again
-- as it is (`rewrites`), and what is printed of numbers (`typed_text`, `untyped`).
use mathlib.Core.Path.{◌≡◌, refl, sym, ap, subst, ◌∙◌}
use mathlib.Core.Logic.{◌≢◌, ◌↔◌, inl, inr}
use mathlib.Core.List.{List, [], ◌∷◌, ◌++◌}
use Prim.Native.Nat.{ℕ, zero, suc, ◌+◌, ◌-◌, ◌*◌, ◌^◌, ◌≤◌, ◌<◌}
use native.Mathlib.Omega.{arith}
use native.Mathlib.Decide.{ℕ_discrete}
use lib.ListN.{length, take, drop, get_or, replicate, length-append}
use lib.Seq.{take_at}
use Rattle.numbers.proofs.Subsets.{bit_below}
use Rattle.fields.specs.Fields.{fields_of}
use Rattle.fields.specs.Fields as fields
use Rattle.printing.proofs.Fours.{two_small}
use Rattle.sheet.specs.Sheets.{line_length, worth}
use Rattle.writing.specs.declared.Wrote.{Wrote}
use Rattle.writing.specs.Lists.{list_sheet, sheet_bytes}
use Rattle.writing.specs.Lists as tree
use Rattle.writing.specs.Answers.{write_fault, WriteSays, typed, typed_list, sheet_text, sheet_text_of}
use Rattle.writing.specs.Claims.{question_numbers, ListQuestion}
use Rattle.writing.proofs.Rows.{listed-worth}
use Rattle.writing.proofs.Questions.{small_list, write_first_no, write_all_yes, write_numbers, write_range}
use Rattle.writing.proofs.Answers.{sheet_length, write_told}
use Rattle.writing.proofs.Texts.{typed_fields, text_says, text_fields}
use Rattle.claim.specs.Claim.{Between, Accepted, line, listed, Whole, Growing, Unwritten}
use Rattle.claim.specs.Claim.Unwritten.{bad_buyers, bad_lots, bad_count, too_large, falling, no_room}
use Rattle.claim.specs.Claim.{WriteClaim}
use Rattle.claim.proofs.Numbers.{has_means}
use Rattle.claim.proofs.Columns.{line_same}
use Rattle.claim.proofs.Sheets.{bytes_in, bytes_same}

module _ (m n : ℕ) (l : List ℕ) where
  -- the page counts buyers from 1 on
  by_buyer : (i s : ℕ) → listed m n l (suc i) s ≡ tree.listed n l i s
  by_buyer i zero = refl
  by_buyer i (suc s) = let e : suc i - 1 ≡ i = omega arith in ap (λ k. get_or l (k * (2 ^ n - 1) + s) 0) e

  pub by_line : (i s : ℕ) → listed m n l i s ≡ tree.listed n l (i - 1) s
  by_line i zero = refl
  by_line i (suc s) = refl

  grow_from : (room : ℕ) → ListQuestion m n l room 4 → Growing m n l
  grow_from room q i s j r h has =
      let t = (has_means j s).1 has in
      elim (ℕ_discrete s (2 ^ j)) [
        | yes e ↦ let z : s - 2 ^ j ≡ 0 = omega arith in omega (arith, ap (listed m n l i) z)
        | no apart ↦
            omega (
              arith,
              q (i - 1) s j (omega arith) h (bit_below n j s h t) t apart,
              by_line i s,
              by_line i (s - 2 ^ j),
            )
      ]

  grow_to : (room : ℕ) → Growing m n l → ListQuestion m n l room 4
  grow_to room q i s j h g _ t _ =
      omega (arith, q (suc i) s j (omega arith) g ((has_means j s).0 t), by_buyer i s, by_buyer i (s - 2 ^ j))

  module _ (room : ℕ) where
    abbrev number : ℕ
    number = (write_fault m n l room).number

    -- the sheet ends where one more line would begin
    pub ends : 13 + m * line_length n ≡ 13 + ((suc m - 1) * (6 * (2 ^ n - 1) + 1) + 6 * (1 - 1))
    ends = let e : suc m - 1 ≡ m = omega arith in omega (arith, ap (λ x. x * line_length n) e)

    unwritten : (j : ℕ) → j < 6 → ((i : ℕ) → i < j → ListQuestion m n l room i) → (ListQuestion m n l room j → ⊥) →
        Unwritten m n l room (get_or question_numbers j 0)
    unwritten zero h before there = bad_buyers there
    unwritten (suc zero) h before there = bad_lots (before 0 (omega arith)) there
    unwritten (suc (suc zero)) h before there = bad_count (before 0 (omega arith)) (before 1 (omega arith)) there
    unwritten (suc (suc (suc zero))) h before there =
        too_large (before 0 (omega arith), before 1 (omega arith), before 2 (omega arith)) there
    unwritten (suc (suc (suc (suc zero)))) h before there =
        falling (before 0 (omega arith), before 1 (omega arith), before 2 (omega arith)) (before 3 (omega arith))
        (λ q. there (grow_to room q))
    unwritten (suc (suc (suc (suc (suc zero))))) h before there =
        no_room (before 0 (omega arith), before 1 (omega arith), before 2 (omega arith)) (before 3 (omega arith))
        (grow_from room (before 4 (omega arith))) (omega (arith, ends, there))
    unwritten (suc (suc (suc (suc (suc (suc j)))))) h before there = absurd (omega arith)

    -- what is asked before each question
    first_yes : Whole m n l → (i : ℕ) → i < 3 → ListQuestion m n l room i
    first_yes w zero h = w.0
    first_yes w (suc zero) h = w.1
    first_yes w (suc (suc zero)) h = w.2
    first_yes w (suc (suc (suc i))) h = absurd (omega arith)

    more_yes : (j : ℕ) → ((i : ℕ) → i < j → ListQuestion m n l room i) → ListQuestion m n l room j →
        (i : ℕ) → i < suc j → ListQuestion m n l room i
    more_yes j before q i h =
        elim (ℕ_discrete j i) [ yes e ↦ subst (ListQuestion m n l room) e q | no e ↦ before i (omega arith) ]

    told : (k : ℕ) → Unwritten m n l room k → number ≡ k
    told k (bad_buyers no_then) = (write_first_no m n l room 0 (omega arith)).1 (λ i h. absurd (omega arith), no_then)
    told k (bad_lots b no_then) =
        (write_first_no m n l room 1 (omega arith)).1 (more_yes 0 (λ i h. absurd (omega arith)) b, no_then)
    told k (bad_count b c no_then) =
        (write_first_no m n l room 2 (omega arith)).1
        (more_yes 1 (more_yes 0 (λ i h. absurd (omega arith)) b) c, no_then)
    told k (too_large w no_then) = (write_first_no m n l room 3 (omega arith)).1 (first_yes w, no_then)
    told k (falling w small no_then) =
        (write_first_no m n l room 4 (omega arith)).1
        (more_yes 3 (first_yes w) small, λ q. no_then (grow_from room q))
    told k (no_room w small grows h) =
        (write_first_no m n l room 5 (omega arith)).1
        (more_yes 4 (more_yes 3 (first_yes w) small) (grow_to room grows), λ q. omega (arith, ends))

    refuses : (k : ℕ) → k ≢ 0 → (number ≡ k) ↔ Unwritten m n l room k
    refuses k some = (
      λ e. elim (write_numbers m n l room) [
        | inl z ↦ absurd (some (sym e ∙ z))
        | inr (j, h, is) ↦
            let (before, there) = (write_first_no m n l room j h).0 is in
            subst (Unwritten m n l room) (sym is ∙ e) (unwritten j h before there)
      ],
      told k,
    )

  -- a list that gets a "yes" to every question
  module _ (room : ℕ) (yes_to : (j : ℕ) → ListQuestion m n l room j) where
    small : (i s : ℕ) → listed m n l i s ≤ 9999
    small i zero = omega arith
    small i (suc s) = yes_to 3 ((i - 1) * (2 ^ n - 1) + s)

    bytes_are : sheet_bytes m n l ≡ bytes_in m n (listed m n l)
    unfolding sheet_bytes
    bytes_are =
        sym (bytes_same (list_sheet m n l) (listed m n l) (yes_to 0).1 (yes_to 1).1 small (λ i s h _ g.
        by_buyer i s ∙ sym (listed-worth m n l (yes_to 0).1 (yes_to 1).1 i s h g)))

    abbrev accepted : Accepted (sheet_bytes m n l)
    accepted =
        record {
          m = m;
          n = n;
          v = listed m n l;
          buyers = yes_to 0;
          lots = yes_to 1;
          empty = λ i. refl;
          small = small;
          grows = grow_from room (yes_to 4);
          bytes = bytes_are;
        }

pub write_claim : (m n : ℕ) (l x x' : List ℕ) (w : Wrote) → WriteSays m n l x x' w → WriteClaim m n l x x' w
write_claim m n l x x' w says =
    let is = (write_told says).number in
    record {
      refuses = λ k some.
          let (to, from) = refuses m n l (length x) k some in
          (λ e. to (sym is ∙ e), λ u. is ∙ from u);
      place = (write_told says).place;
      written = λ z.
          let yes_to = (write_all_yes m n l (length x)).0 (sym is ∙ z) in
          let (long, bytes) = (write_told says).written z in (
            sheet_bytes m n l,
            (
              accepted m n l (length x) yes_to,
              (refl, refl, λ i s _ _. refl, long, omega (arith, sheet_length m n l, yes_to 5), bytes),
            ),
          );
      nothing = (write_told says).refused;
    }

-- an accepted sheet's worths, listed in order
module _ (b : List ℕ) (y : Accepted b) (l : List ℕ) (right : length l ≡ y.m * (2 ^ y.n - 1))
    (same : (i s : ℕ) → Between 1 y.m i → s < 2 ^ y.n → listed y.m y.n l i s ≡ y.v i s) where
  on_sheet : (i s : ℕ) → i < y.m → s < 2 ^ y.n → y.v (suc i) s ≡ worth (list_sheet y.m y.n l) i s
  on_sheet i s h g =
      sym (same (suc i) s (omega arith) g) ∙ by_buyer y.m y.n l i s
      ∙ sym (listed-worth y.m y.n l y.buyers.1 y.lots.1 i s h g)

  same_bytes : b ≡ sheet_bytes y.m y.n l
  unfolding sheet_bytes
  same_bytes =
      y.bytes
      ∙ bytes_same (list_sheet y.m y.n l) y.v y.buyers.1 y.lots.1 y.small (λ i s h _ g.
      on_sheet i s h g)

  asked : (room : ℕ) → length b ≤ room → (j : ℕ) → ListQuestion y.m y.n l room j
  asked room long zero = y.buyers
  asked room long (suc zero) = y.lots
  asked room long (suc (suc zero)) = right
  asked room long (suc (suc (suc zero))) =
      small_list y.m y.n l y.buyers.1 y.lots.1 right (λ i s h g.
      omega (arith, on_sheet i s h g, y.small (suc i) s))
  asked room long (suc (suc (suc (suc zero)))) =
      grow_to y.m y.n l room (λ i s j r h has.
      omega (arith, y.grows i s j r h has, same i s r h, same i (s - 2 ^ j) r (omega arith)))
  asked room long (suc (suc (suc (suc (suc zero))))) =
      omega (arith, sheet_length y.m y.n l, ap length same_bytes)
  asked room long (suc (suc (suc (suc (suc (suc j)))))) = tt

pub rewrites : (b : List ℕ) (y : Accepted b) (l x x' : List ℕ) (w : Wrote) → length l ≡ y.m * (2 ^ y.n - 1) →
    ((i s : ℕ) → Between 1 y.m i → s < 2 ^ y.n → listed y.m y.n l i s ≡ y.v i s) → length b ≤ length x →
    WriteSays y.m y.n l x x' w → (w.number ≡ 0) × (w.length ≡ length b) × (x' ≡ b ++ drop (length b) x)
rewrites b y l x x' w right same long says =
    let z = (write_told says).number
    ∙ (write_all_yes y.m y.n l (length x)).1 (asked b y l right same (length x) long) in
    let (length_is, bytes) = (write_told says).written z in
    let e = sym (same_bytes b y l right same) in
    (z, length_is ∙ ap length e, bytes ∙ ap (λ c. c ++ drop (length c) x) e)

-- numbers in fields, with a line end, are a line
pub fields_line : (b : List ℕ) (l : List ℕ) → b ++ (10 ∷ []) ≡ line l → ((k : ℕ) → get_or l k 0 ≤ 999999) →
    b ≡ fields_of l
fields_line b l e small =
    let end : List ℕ = 10 ∷ [] in
    let is : b ++ end ≡ fields_of l ++ end = e ∙ line_same l small in
    let long : length (fields_of l) ≡ length b =
    omega (arith, ap length is, length-append b end, length-append (fields_of l) end) in
    sym (take_at b end (length b) refl) ∙ ap (take (length b)) is ∙ take_at (fields_of l) end (length b) long

pub typed_text : (m n : ℕ) (l b x x' : List ℕ) (w : Wrote) → b ++ (10 ∷ []) ≡ line (m ∷ n ∷ l) →
    ((k : ℕ) → get_or (m ∷ n ∷ l) k 0 ≤ 999999) → 559 ≤ length x → WriteSays m n l x x' w → (text : List ℕ)
    × (((sheet_text_of b).length ≡ length text)
    × ((sheet_text_of b).bytes ≡ text ++ drop (length text) (replicate 559 0))
    × (w.number ≡ 0 → text ≡ take w.length x') × (w.number ≢ 0 → text ≡ line (w.number ∷ 0 ∷ [])))
typed_text m n l b x x' w e small long says =
    let is = fields_line b (m ∷ n ∷ l) e small in
    let (m_is, n_is, l_is) = typed_fields m n l small in
    let said : WriteSays (typed b 0) (typed b 1) (typed_list b) x x' w =
    rw (is, m_is, n_is, l_is) says in
    let (written, refused) = text_says b x x' w long said in
    let low = (write_told says).number in
    let none = (write_told says).place in (
      sheet_text b,
      (
        refl,
        refl,
        λ z. (written z).0,
        λ h. refused h ∙ ap (λ p. fields.line_of (w.number ∷ p ∷ [])) none
            ∙ sym (line_same (w.number ∷ 0 ∷ []) (λ k.
            let few = write_range m n l (length x) in
            omega (arith, two_small 1000000 w.number 0 (omega (arith, low, few)) (omega arith) k))),
      ),
    )

pub untyped : (b : List ℕ) → 13 < (sheet_text_of b).length →
    (m : ℕ) × ((n : ℕ) × ((l : List ℕ) × (b ++ (10 ∷ []) ≡ line (m ∷ n ∷ l))))
untyped b long =
    let (is, small) = text_fields b long in
    let l = typed b 0 ∷ typed b 1 ∷ typed_list b in
    let told = ap (λ c. c ++ (10 ∷ [])) is ∙ sym (line_same l (λ k. omega (arith, small k))) in
    (typed b 0, (typed b 1, (typed_list b, told)))
