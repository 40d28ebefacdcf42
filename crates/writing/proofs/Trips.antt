-- The round trips: what is written is read as the list's table (`written_read`); a sheet's numbers are in the list's
-- order (`in_order_lem`), and an accepted sheet, read and written, gives its own bytes (`read_written`). The questions
-- that a list shares with a sheet are those of the sheet that it makes (`same_questions`).
use mathlib.Core.Path.{◌≡◌, refl, sym, ap, ap₂, subst, ◌∙◌}
use mathlib.Core.Logic.{inl, inr}
use mathlib.Core.List.{List, [], ◌∷◌}
use Prim.Native.Nat.{ℕ, zero, suc, ◌+◌, ◌-◌, ◌*◌, ◌/◌, ◌%◌, ◌^◌, ◌≤◌, ◌<◌}
use native.Mathlib.Nat.{div-add-mod'}
use native.Mathlib.Omega.{arith}
use native.Mathlib.Decide.{ℕ_discrete}
use lib.ListN.{length, take, get_or}
use lib.Seq.{take_at, ext_get_or}
use Rattle.theory.specs.Lists.{tabulate, over}
use Rattle.theory.proofs.Lists.{tabulate-at, tabulate-length, tabulate_same, tabulate_each}
use Rattle.numbers.proofs.Numbers.{factor_some, line_below, place_below, count_below, count-line, count_place}
use Rattle.fields.specs.Fields.{lines_of}
use Rattle.sheet.specs.Sheets.{Sheet, sheet_of, worth, line_worths, bytes_of}
use Rattle.sheet.specs.Questions.{fault, sheet_fault}
use Rattle.sheet.specs.Answers.{worths_by, worths_read}
use Rattle.sheet.specs.Claims.{questions, Question}
use Rattle.sheet.proofs.Theorems.{place_zero, accepted_shape, accepted_grows}
use Rattle.sheet.proofs.Accepting.{sheets_all, written_read as table_read, written_asked}
use Rattle.sheet.proofs.Faults.{before_more, first_no}
use Rattle.sheet.proofs.Valued.{Bounded}
use Rattle.sheet.proofs.Writing.{Written, bytes_written}
use Rattle.sheet.proofs.Tables.{Tabled, table_accepted, table_bounded}
use Rattle.writing.specs.declared.Wrote.{Wrote}
use Rattle.writing.specs.Lists.{listed, list_sheet, sheet_bytes, in_order}
use Rattle.writing.specs.Answers.{write_fault, WriteSays}
use Rattle.writing.specs.Claims.{question_numbers, ListQuestion}
use Rattle.writing.proofs.Rows.{listed-worth}
use Rattle.writing.proofs.Questions.{small_list, small_table, grow_list}
use Rattle.writing.proofs.Questions.{write_first_no, write_all_yes, write_numbers}
use Rattle.writing.proofs.Answers.{sheet_length, write_told}

-- a list that gets a "yes" to every question
module _ (m n : ℕ) (vs : List ℕ) (room : ℕ) (yes_to : (j : ℕ) → ListQuestion m n vs room j) where
  listed_small : (i s : ℕ) → listed n vs i s ≤ 9999
  listed_small i zero = omega arith
  listed_small i (suc c) = yes_to 3 (i * (2 ^ n - 1) + c)

  tabled : Tabled m n (listed n vs)
  tabled =
      record {
        buyers = yes_to 0;
        lots = yes_to 1;
        empty = λ i _. refl;
        small = λ i s _ _. listed_small i s;
        grows = λ i s j h g l t.
            elim (ℕ_discrete s (2 ^ j)) [
              | no apart ↦ yes_to 4 i s j h g l t apart
              | yes e ↦ let z : s - 2 ^ j ≡ 0 = omega arith in omega (arith, ap (listed n vs i) z)
            ];
      }

  pub bytes_accepted : ((sheet_fault (sheet_bytes m n vs)).number ≡ 0)
      × (sheet_of (sheet_bytes m n vs) ≡ list_sheet m n vs)
  unfolding sheet_bytes
  bytes_accepted = table_accepted m n (listed n vs) tabled

-- what an accepted sheet is read as
accepted_read : (b : List ℕ) (w : Sheet) → (sheet_fault b).number ≡ 0 → sheet_of b ≡ w →
    worths_read b ≡ record { number = 0; place = 0; buyers = w.buyers; lots = w.lots; worths = w.worths }
unfolding worths_read worths_by
accepted_read b w z e = ap₂ worths_by (ap₂ fault z (place_zero b (omega arith))) e

module _ (m n : ℕ) (vs o o' : List ℕ) (r : Wrote) (says : WriteSays m n vs o o' r) (z : r.number ≡ 0) where
  pub written_read : (r.length ≡ length (sheet_bytes m n vs)) × (o' ≡ over (sheet_bytes m n vs) o)
      × (worths_read (take r.length o')
      ≡ record { number = 0; place = 0; buyers = m; lots = n; worths = (list_sheet m n vs).worths })
  written_read =
      let b = sheet_bytes m n vs in
      let (long, is) = (write_told says).written z in
      let none = sym (write_told says).number ∙ z in
      let (accepted, read) = bytes_accepted m n vs (length o) ((write_all_yes m n vs (length o)).0 none) in
      let front : take r.length o' ≡ b = ap (take r.length) is ∙ take_at b _ r.length (sym long) in
      (long, is, ap worths_read front ∙ accepted_read b (list_sheet m n vs) accepted read)

-- a sheet's numbers in order: those of line i and place c come at i * size + c
module _ (w : Sheet) where
  abbrev size : ℕ
  size = 2 ^ w.lots - 1

  abbrev count : ℕ
  count = w.buyers * size

  abbrev at : ℕ → ℕ
  at k = worth w (k / size) (suc (k % size))

  order_length : length (in_order w) ≡ count
  order_length = tabulate-length count 0 at

  order_listed : (i c : ℕ) → i < w.buyers → suc c < 2 ^ w.lots →
      listed w.lots (in_order w) i (suc c) ≡ worth w i (suc c)
  order_listed i c h g =
      let some : 1 ≤ size = omega arith in
      let less : c < size = omega arith in
      let none : 0 + (i * size + c) ≡ i * size + c = omega arith in
      tabulate-at count 0 at (i * size + c) 0 (count_below size some w.buyers i c h less)
      ∙ ap at none ∙ rw (count-line size some i c less, count_place size some i c less) refl

pub in_order_lem : (m n : ℕ) (vs : List ℕ) → m ≤ 6 → n ≤ 4 → length vs ≡ m * (2 ^ n - 1) →
    in_order (list_sheet m n vs) ≡ vs
in_order_lem m n vs few low right =
    let w = list_sheet m n vs in
    ext_get_or 0 (in_order w) vs (order_length w ∙ sym right) (λ k h.
    let z = 2 ^ n - 1 in
    let below : k < m * z = omega (arith, order_length w) in
    let some : 1 ≤ z = factor_some k m z below in
    let line : k / z < m = line_below k m z some below in
    let there : suc (k % z) < 2 ^ n = omega (arith, place_below k z some) in
    let none : 0 + k ≡ k = omega arith in
    tabulate-at (count w) 0 (at w) k 0 below ∙ ap (at w) none
    ∙ listed-worth m n vs few low (k / z) (suc (k % z)) line there
    ∙ ap (λ x. get_or vs x 0) (div-add-mod' k z))

-- the bytes of a sheet are told by its worths
bytes_same : (w u : Sheet) → w.buyers ≡ u.buyers → w.lots ≡ u.lots →
    ((i c : ℕ) → i < u.buyers → suc c < 2 ^ u.lots → worth w i (suc c) ≡ worth u i (suc c)) → bytes_of w ≡ bytes_of u
bytes_same w u em en same =
    let k = 2 ^ u.lots - 1 in
    let rows : tabulate u.buyers 0 (λ i. tabulate k 1 (worth w i)) ≡ tabulate u.buyers 0 (line_worths u) =
    tabulate_same u.buyers 0 (λ i. tabulate k 1 (worth w i)) (line_worths u) (λ i r.
    tabulate_same k 1 (worth w i) (worth u i) (λ s q.
    let next : suc (s - 1) ≡ s = omega arith in
    rw next at (same i (s - 1) (omega arith) (omega arith)))) in
    rw (em, en) (ap (λ ls. lines_of ((u.buyers ∷ u.lots ∷ []) ∷ ls)) rows)

-- an accepted sheet
module _ (b : List ℕ) (accepted : (sheet_fault b).number ≡ 0) where
  abbrev u : Sheet
  u = sheet_of b

  abbrev vs : List ℕ
  vs = in_order u

  few : u.buyers ≤ 6
  few = (accepted_shape b accepted).few_buyers

  low : u.lots ≤ 4
  low = (accepted_shape b accepted).few_lots

  same_bytes : sheet_bytes u.buyers u.lots vs ≡ b
  unfolding sheet_bytes
  same_bytes =
      bytes_same (list_sheet u.buyers u.lots vs) u refl refl (λ i c h g.
      listed-worth u.buyers u.lots vs few low i (suc c) h g ∙ order_listed u i c h g)
      ∙ sym (sheets_all.accepted_bytes b accepted)

  listed_is : (i s : ℕ) → i < u.buyers → s < 2 ^ u.lots → listed u.lots vs i s ≡ worth u i s
  listed_is i zero h g = sym ((accepted_shape b accepted).empty i)
  listed_is i (suc c) h g = order_listed u i c h g

  asked : (room : ℕ) → length b ≤ room → (j : ℕ) → ListQuestion u.buyers u.lots vs room j
  asked room long zero = ((accepted_shape b accepted).some_buyers, few)
  asked room long (suc zero) = ((accepted_shape b accepted).some_lots, low)
  asked room long (suc (suc zero)) = order_length u
  asked room long (suc (suc (suc zero))) =
      tabulate_each (λ x. x ≤ 9999) 0 (count u) 0 (at u) (omega arith)
      (λ j _. (accepted_shape b accepted).small (16 * (j / size u) + suc (j % size u)))
  asked room long (suc (suc (suc (suc zero)))) = λ i s j h g l t apart.
      omega (arith, accepted_grows b accepted i s j h g l t, listed_is i s h g, listed_is i (s - 2 ^ j) h (omega arith))
  asked room long (suc (suc (suc (suc (suc zero))))) =
      omega (arith, sheet_length u.buyers u.lots vs, ap length same_bytes)
  asked room long (suc (suc (suc (suc (suc (suc j)))))) = tt

  pub read_written : (o o' : List ℕ) (r : Wrote) → length b ≤ length o → WriteSays u.buyers u.lots vs o o' r →
      (r.number ≡ 0) × (r.length ≡ length b) × (o' ≡ over b o)
  read_written o o' r long says =
      let m = u.buyers in
      let n = u.lots in
      let z = (write_told says).number ∙ (write_all_yes m n vs (length o)).1 (asked (length o) long) in
      let (length_is, bytes_is) = (write_told says).written z in
      (z, length_is ∙ ap length same_bytes, bytes_is ∙ ap (λ x. over x o) same_bytes)

-- a list of the right length, with numbers of six columns, and a buffer that is long enough
module _ (m n : ℕ) (vs : List ℕ) (room : ℕ) (buyers : (1 ≤ m) × (m ≤ 6)) (lots : (1 ≤ n) × (n ≤ 4))
    (right : length vs ≡ m * (2 ^ n - 1)) (small : (k : ℕ) → get_or vs k 0 ≤ 999999)
    (long : length (sheet_bytes m n vs) ≤ room) where
  abbrev w : Sheet
  w = list_sheet m n vs

  abbrev bytes : List ℕ
  bytes = sheet_bytes m n vs

  listed_bound : (i s : ℕ) → listed n vs i s ≤ 999999
  listed_bound i zero = omega arith
  listed_bound i (suc c) = small (i * (2 ^ n - 1) + c)

  known : Bounded w 999999
  known = table_bounded m n (listed n vs) 999999 (λ i _. refl) (λ i s _ _. listed_bound i s)

  written : Written bytes w
  unfolding sheet_bytes
  written = bytes_written w

  read : sheet_of bytes ≡ w
  read = table_read bytes w buyers lots known written

  of_table : (k : ℕ) → Question bytes k → get_or (questions bytes w) k (Unit {0})
  of_table k = subst (λ x. get_or (questions bytes x) k (Unit {0})) read

  -- questions 1 to 6 get a "yes", and so does 7 if it does of the list
  before_large : (k : ℕ) → k < 7 → Question bytes k
  before_large = written_asked bytes w buyers lots known written

  before_falls : ((k : ℕ) → get_or vs k 0 ≤ 9999) → (k : ℕ) → k < 8 → Question bytes k
  before_falls q =
      before_more bytes 7 before_large
      (subst (λ x. get_or (questions bytes x) 7 (Unit {0})) (sym read) (small_table m n vs buyers.1 lots.1 right q))

  pub same_questions : (write_fault m n vs room).number ≡ (sheet_fault bytes).number
  same_questions =
      elim (write_numbers m n vs room) [
        | inl z ↦ z ∙ sym (bytes_accepted m n vs room ((write_all_yes m n vs room).0 z)).0
        | inr (j, l, e) ↦ let (before, there) = (write_first_no m n vs room j l).0 e in e ∙ sym (same j l before there)
      ]
    where
      same : (j : ℕ) → j < 6 → ((i : ℕ) → i < j → ListQuestion m n vs room i) → (ListQuestion m n vs room j → ⊥) →
          (sheet_fault bytes).number ≡ get_or question_numbers j 0
      same zero l before there = absurd (there buyers)
      same (suc zero) l before there = absurd (there lots)
      same (suc (suc zero)) l before there = absurd (there right)
      same (suc (suc (suc zero))) l before there =
          (first_no bytes 7 (omega arith)).1
          (before_large, λ q. there (small_list m n vs buyers.1 lots.1 right (of_table 7 q)))
      same (suc (suc (suc (suc zero)))) l before there =
          (first_no bytes 8 (omega arith)).1 (
            before_falls (before 3 (omega arith)),
            λ q. there (grow_list m n vs buyers.1 lots.1 right (of_table 8 q)),
          )
      same (suc (suc (suc (suc (suc zero))))) l before there = absurd (there (omega (arith, sheet_length m n vs)))
      same (suc (suc (suc (suc (suc (suc j)))))) l before there = absurd (omega arith)
