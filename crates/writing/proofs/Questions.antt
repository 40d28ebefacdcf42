-- The fault of a list, by the question that gets the first "no" (`write_first_no`, `write_all_yes`, `write_numbers`);
-- its number is at most 11 (`write_range`), and its place is 0 (`write_place`).
use mathlib.Core.Path.{◌≡◌, refl, sym, ap}
use mathlib.Core.Logic.{◌≢◌, ◌⊎◌, ◌↔◌}
use mathlib.Core.Bool.{true}
use mathlib.Core.List.{List, [], ◌∷◌}
use Prim.Native.Nat.{ℕ, zero, suc, ◌+◌, ◌-◌, ◌*◌, ◌/◌, ◌%◌, ◌^◌, ◌≤◌, ◌<◌}
use native.Mathlib.Nat.{div-add-mod'}
use native.Mathlib.Omega.{arith}
use native.Mathlib.Decide.{dec_lt}
use lib.Dec.{leb}
use lib.ListN.{length, drop, get_or, get_or-eq_default}
use Rattle.theory.specs.Markets.{Table}
use Rattle.theory.proofs.Tests.{Means, means_via, eqb_means, leb_means}
use Rattle.numbers.specs.Numbers.{bit}
use Rattle.numbers.proofs.Numbers.{factor_some, line_below, place_below}
use Rattle.sheet.specs.declared.Fault.{Fault}
use Rattle.sheet.specs.Sheets.{line_length, Sheet, worth}
use Rattle.sheet.specs.Questions.{fault, between, first_wrong}
use Rattle.sheet.proofs.Tables.{table_empty}
use Rattle.sheet.proofs.Firsts.{FirstNo, first_asked, Tells, first_none, first_no, first-number}
use Rattle.sheet.proofs.Nowhere.{none_large, none_falls}
use Rattle.sheet.proofs.Faults.{between_means}
use Rattle.sheet.proofs.Theorems.{ask_cases}
use Rattle.writing.specs.Lists.{listed, list_sheet}
use Rattle.writing.specs.Answers.{right_count, none_wrong, write_fault}
use Rattle.writing.specs.Claims.{question_numbers, list_questions, ListQuestion}
use Rattle.writing.proofs.Rows.{listed-worth}

pub listed_empty : (m n : ℕ) (vs : List ℕ) (i : ℕ) → worth (list_sheet m n vs) i 0 ≡ 0
listed_empty m n vs = table_empty m n (listed n vs) (λ i _. refl)

-- a list of the right length, of at most six buyers and four lots
module _ (m n : ℕ) (vs : List ℕ) (few : m ≤ 6) (low : n ≤ 4) (right : length vs ≡ m * (2 ^ n - 1)) where
  abbrev w : Sheet
  w = list_sheet m n vs

  abbrev size : ℕ
  size = 2 ^ n - 1

  -- question 7 of the table is one of the list
  abbrev Small : Type 0
  Small = (k : ℕ) → get_or vs k 0 ≤ 9999

  abbrev SmallTable : Type 0
  SmallTable = (i s : ℕ) → i < m → s < 2 ^ n → worth w i s ≤ 9999

  pub small_list : SmallTable → Small
  small_list small k =
      elim (dec_lt k (length vs)) [
        | no h ↦ omega (arith, get_or-eq_default vs 0 {n = k} (omega arith))
        | yes h ↦
            let some : 1 ≤ size = factor_some k m size (omega (arith, right)) in
            let i = k / size in
            let c = k % size in
            let line : i < m = line_below k m size some (omega (arith, right)) in
            let there : suc c < 2 ^ n = omega (arith, place_below k size some) in
            let e = listed-worth m n vs few low i (suc c) line there in
            omega (arith, small i (suc c) line there, e, ap (λ x. get_or vs x 0) (div-add-mod' k size))
      ]

  pub small_table : Small → SmallTable
  small_table small i zero h g = omega (arith, listed_empty m n vs i)
  small_table small i (suc c) h g =
      omega (arith, small (i * size + c), listed-worth m n vs few low i (suc c) h g)

  pub large_asked : Means (none_wrong 7 w) Small
  large_asked =
      let (to, back) = none_large [] w (listed_empty m n vs) in
      means_via (eqb_means (first_wrong 7 [] w) 0) (λ z. small_list (to z)) (λ q. back (small_table q))

  -- and so is question 8
  abbrev Growing : Table → Type 0
  Growing v = (i s j : ℕ) → i < m → s < 2 ^ n → j < n → bit j s ≡ true → s ≢ 2 ^ j → v i (s - 2 ^ j) ≤ v i s

  grow_same : (v u : Table) → ((i s : ℕ) → i < m → s < 2 ^ n → v i s ≡ u i s) → Growing v → Growing u
  grow_same v u same q i s j h g l t apart =
      omega (arith, q i s j h g l t apart, same i s h g, same i (s - 2 ^ j) h (omega arith))

  pub grow_list : Growing (worth w) → Growing (listed n vs)
  grow_list = grow_same (worth w) (listed n vs) (listed-worth m n vs few low)

  grow_table : Growing (listed n vs) → Growing (worth w)
  grow_table = grow_same (listed n vs) (worth w) (λ i s h g. sym (listed-worth m n vs few low i s h g))

  falls_asked : Means (none_wrong 8 w) (Growing (listed n vs))
  falls_asked =
      let (to, back) = none_falls [] w (listed_empty m n vs) in
      means_via (eqb_means (first_wrong 8 [] w) 0) (λ z. grow_list (to z)) (λ q. back (grow_table q))

abbrev number : ℕ → ℕ
number j = get_or question_numbers j 0

-- the question that has a number
abbrev back : ℕ → ℕ
back k = get_or (0 ∷ 0 ∷ 0 ∷ 0 ∷ 1 ∷ 2 ∷ 0 ∷ 3 ∷ 4 ∷ 0 ∷ 0 ∷ 5 ∷ []) k 0

tells : (j : ℕ) → j < 6 → Tells number back j
tells zero h = (omega arith, refl)
tells (suc zero) h = (omega arith, refl)
tells (suc (suc zero)) h = (omega arith, refl)
tells (suc (suc (suc zero))) h = (omega arith, refl)
tells (suc (suc (suc (suc zero)))) h = (omega arith, refl)
tells (suc (suc (suc (suc (suc zero))))) h = (omega arith, refl)
tells (suc (suc (suc (suc (suc (suc j)))))) h = absurd (omega arith)

module _ (m n : ℕ) (vs : List ℕ) (room : ℕ) where
  abbrev from : ℕ → List (Type 0)
  from j = drop j (list_questions m n vs room)

  list-first : FirstNo number (from 0) (write_fault m n vs room).number
  unfolding write_fault
  list-first =
      let u = list_sheet m n vs in
      first_asked number _ (from 1) (between 6 m) _ (between_means 6 m) (λ e3.
      first_asked (λ i. number (suc i)) _ (from 2) (between 4 n) _ (between_means 4 n) (λ e4.
      let few = ((between_means 6 m).0 e3).1 in
      let low = ((between_means 4 n).0 e4).1 in
      first_asked (λ i. number (suc (suc i))) _ (from 3) (right_count m n vs) _
      (eqb_means (length vs) (m * (2 ^ n - 1))) (λ e5.
      let right = (eqb_means (length vs) (m * (2 ^ n - 1))).0 e5 in
      first_asked (λ i. number (suc (suc (suc i)))) _ (from 4) (none_wrong 7 u) _
      (large_asked m n vs few low right) (λ _.
      first_asked (λ i. number (suc (suc (suc (suc i))))) _ (from 5) (none_wrong 8 u) _
      (falls_asked m n vs few low right) (λ _.
      first_asked (λ i. number (suc (suc (suc (suc (suc i)))))) _ (from 6) (leb (13 + m * line_length n) room) _
      (leb_means (13 + m * line_length n) room) (λ _. refl))))))

  pub write_first_no : (j : ℕ) → j < 6 → ((write_fault m n vs room).number ≡ number j)
      ↔ (((i : ℕ) → i < j → ListQuestion m n vs room i) × (ListQuestion m n vs room j → ⊥))
  write_first_no = first_no number back (from 0) (write_fault m n vs room).number tells list-first

  pub write_all_yes : ((write_fault m n vs room).number ≡ 0) ↔ ((j : ℕ) → ListQuestion m n vs room j)
  write_all_yes = first_none number back (from 0) (write_fault m n vs room).number tells list-first

  pub write_numbers : ((write_fault m n vs room).number ≡ 0)
      ⊎ ((j : ℕ) × (j < 6) × ((write_fault m n vs room).number ≡ number j))
  write_numbers = first-number number back (from 0) (write_fault m n vs room).number tells list-first

  -- a fault has a number up to 11, and the place 0
  fault_cases : (P : Fault → Type 0) → ((k : ℕ) → k ≤ 11 → P (fault k 0)) → P (write_fault m n vs room)
  unfolding write_fault
  fault_cases P h =
      let u = list_sheet m n vs in
      ask_cases P 3 (between 6 m) _ (h 3 (omega arith)) (λ _.
      ask_cases P 4 (between 4 n) _ (h 4 (omega arith)) (λ _.
      ask_cases P 5 (right_count m n vs) _ (h 5 (omega arith)) (λ _.
      ask_cases P 7 (none_wrong 7 u) _ (h 7 (omega arith)) (λ _.
      ask_cases P 8 (none_wrong 8 u) _ (h 8 (omega arith)) (λ _.
      ask_cases P 11 (leb (13 + m * line_length n) room) _ (h 11 (omega arith)) (λ _. h 0 (omega arith)))))))

  pub write_range : (write_fault m n vs room).number ≤ 11
  write_range = fault_cases (λ f. f.number ≤ 11) (λ k low. low)

  pub write_place : (write_fault m n vs room).place ≡ 0
  write_place = fault_cases (λ f. f.place ≡ 0) (λ k _. refl)
