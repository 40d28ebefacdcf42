-- What bounds a list: 559 bytes have room for every sheet (`never_eleven`, `room_alike`); a list of more than 91
-- numbers is refused as one of 91 is (`write_cut`), and numbers above 999,999 as that is (`write_capped`).
use mathlib.Core.Path.{◌≡◌, sym, ap, ◌∙◌}
use mathlib.Core.Logic.{◌≢◌}
use mathlib.Core.Bool.{Bool, true, false}
use mathlib.Core.List.{List, map}
use Prim.Native.Nat.{ℕ, min, ◌+◌, ◌-◌, ◌*◌, ◌^◌, ◌≤◌, ◌<◌}
use native.Mathlib.Omega.{arith}
use native.Mathlib.Decide.{dec_le}
use lib.ListN.{length, take, get_or, length-map, get_or-map}
use lib.Seq.{take_all, length-take-le, ext_get_or}
use borrow.Author.Tests.{le-leb}
use Rattle.theory.proofs.Tests.{by_test, same_test, fails, eqb_means}
use Rattle.numbers.proofs.Numbers.{pow_small, product_small}
use Rattle.sheet.specs.declared.Fault.{Fault}
use Rattle.sheet.specs.Sheets.{line_length}
use Rattle.sheet.specs.Questions.{fault, ask, between}
use Rattle.sheet.proofs.Faults.{between_means}
use Rattle.writing.specs.Lists.{list_sheet}
use Rattle.writing.specs.Answers.{right_count, none_wrong, write_fault}
use Rattle.writing.proofs.Asking.{bad_buyers, bad_lots, bad_count, refused_large}
use Rattle.writing.proofs.Questions.{large_asked, write_first_no}

-- six buyers and four lots are the most
pub count_small : (m n : ℕ) → m ≤ 6 → n ≤ 4 → m * (2 ^ n - 1) ≤ 90
count_small m n few low = product_small m (2 ^ n - 1) 6 15 few (omega (arith, pow_small n low))

pub bytes_small : (m n : ℕ) → m ≤ 6 → n ≤ 4 → 13 + m * line_length n ≤ 559
bytes_small m n few low =
    omega (arith, product_small m (line_length n) 6 91 few (omega (arith, pow_small n low)))

pub never_eleven : (m n : ℕ) (vs : List ℕ) (room : ℕ) → 559 ≤ room → (write_fault m n vs room).number ≢ 11
never_eleven m n vs room long e =
    let (before, there) = (write_first_no m n vs room 5 (omega arith)).0 e in
    there (omega (arith, bytes_small m n (before 0 (omega arith)).1 (before 1 (omega arith)).1))

-- two lists that are asked alike once buyers and lots are good
module _ (m n : ℕ) (vs us : List ℕ) (room : ℕ) where
  asked_alike : (between 6 m ≡ true → between 4 n ≡ true → write_fault m n vs room ≡ write_fault m n us room) →
      write_fault m n vs room ≡ write_fault m n us room
  asked_alike same =
      by_test (between 6 m)
      (λ e3. by_test (between 4 n)
      (λ e4. same e3 e4)
      (λ e4. bad_lots m n vs room e3 e4 ∙ sym (bad_lots m n us room e3 e4)))
      (λ e3. bad_buyers m n vs room e3 ∙ sym (bad_buyers m n us room e3))

-- from 559 bytes on the buffer makes no difference
pub room_alike : (m n : ℕ) (vs : List ℕ) (room : ℕ) → 559 ≤ room → write_fault m n vs room ≡ write_fault m n vs 559
unfolding write_fault
room_alike m n vs room long =
    by_test (between 6 m)
    (λ e3. by_test (between 4 n)
    (λ e4.
    let size = 13 + m * line_length n in
    let fits = bytes_small m n ((between_means 6 m).0 e3).1 ((between_means 4 n).0 e4).1 in
    ap (asked_with m n vs) (le-leb size room (omega arith) ∙ sym (le-leb size 559 fits)))
    (λ e4. bad_lots m n vs room e3 e4 ∙ sym (bad_lots m n vs 559 e3 e4)))
    (λ e3. bad_buyers m n vs room e3 ∙ sym (bad_buyers m n vs 559 e3))
  where
    asked_with : (m n : ℕ) (vs : List ℕ) → Bool → Fault
    asked_with m n vs fits =
        ask 3 (between 6 m) λ _.
        ask 4 (between 4 n) λ _.
        ask 5 (right_count m n vs) λ _.
        ask 7 (none_wrong 7 (list_sheet m n vs)) λ _.
        ask 8 (none_wrong 8 (list_sheet m n vs)) λ _.
        ask 11 fits λ _.
        fault 0 0

pub write_cut : (m n : ℕ) (vs : List ℕ) (room : ℕ) → write_fault m n (take 91 vs) room ≡ write_fault m n vs room
write_cut m n vs room =
    elim (dec_le (length vs) 91) [
      | yes h ↦ ap (λ us. write_fault m n us room) (take_all 91 vs h)
      | no h ↦
          asked_alike m n (take 91 vs) vs room (λ e3 e4.
          let few = count_small m n ((between_means 6 m).0 e3).1 ((between_means 4 n).0 e4).1 in
          bad_count m n (take 91 vs) room e3 e4 (λ e. omega (arith, length-take-le 91 vs (omega arith)))
          ∙ sym (bad_count m n vs room e3 e4 (λ e. omega arith)))
    ]

-- the least of a number and 999,999
abbrev pub cap : ℕ → ℕ
cap v = min v 999999

pub cap_between : (k m : ℕ) → k < 999999 → between k (cap m) ≡ between k m
cap_between k m h =
    same_test (between k (cap m)) (between k m)
    (λ e. (between_means k m).1 (omega (arith, (between_means k (cap m)).0 e)))
    (λ e. (between_means k (cap m)).1 (omega (arith, (between_means k m).0 e)))

cap_at : (vs : List ℕ) (k : ℕ) → get_or (map cap vs) k 0 ≡ cap (get_or vs k 0)
cap_at vs k = get_or-map cap vs k 0

-- small numbers stay
cap_same : (vs : List ℕ) → ((k : ℕ) → get_or vs k 0 ≤ 9999) → map cap vs ≡ vs
cap_same vs small =
    ext_get_or 0 (map cap vs) vs (length-map vs cap) (λ k _. cap_at vs k ∙ omega (arith, small k))

module _ (m n : ℕ) (vs : List ℕ) (room : ℕ) where
  capped_list : write_fault m n (map cap vs) room ≡ write_fault m n vs room
  capped_list =
      let us = map cap vs in
      asked_alike m n us vs room (λ e3 e4.
      let few = ((between_means 6 m).0 e3).1 in
      let low = ((between_means 4 n).0 e4).1 in
      let long = length-map vs cap in
      by_test (right_count m n vs)
      (λ e5.
      let right = (eqb_means (length vs) (m * (2 ^ n - 1))).0 e5 in
      let large = large_asked m n vs few low right in
      by_test (none_wrong 7 (list_sheet m n vs))
      (λ e7. ap (λ l. write_fault m n l room) (cap_same vs (large.0 e7)))
      (λ e7.
      let also : none_wrong 7 (list_sheet m n us) ≡ false =
      by_test (none_wrong 7 (list_sheet m n us))
      (λ t. fails (large.1 (λ k. omega (arith, cap_at vs k, (large_asked m n us few low (long ∙ right)).0 t k))) e7)
      (λ t. t) in
      refused_large m n us room e3 e4 ((eqb_means (length us) (m * (2 ^ n - 1))).1 (long ∙ right)) also
      ∙ sym (refused_large m n vs room e3 e4 e5 e7)))
      (λ e5.
      let wrong : length vs ≢ m * (2 ^ n - 1) = λ e. fails ((eqb_means (length vs) (m * (2 ^ n - 1))).1 e) e5 in
      bad_count m n us room e3 e4 (λ e. wrong (sym long ∙ e)) ∙ sym (bad_count m n vs room e3 e4 wrong)))

  pub write_capped : write_fault (cap m) (cap n) (map cap vs) room ≡ write_fault m n vs room
  write_capped =
      by_test (between 6 m)
      (λ e3.
      let em : cap m ≡ m = omega (arith, (between_means 6 m).0 e3) in
      by_test (between 4 n)
      (λ e4.
      let en : cap n ≡ n = omega (arith, (between_means 4 n).0 e4) in
      ap (λ x. write_fault x (cap n) (map cap vs) room) em ∙ ap (λ x. write_fault m x (map cap vs) room) en
      ∙ capped_list)
      (λ e4.
      bad_lots (cap m) (cap n) (map cap vs) room (cap_between 6 m (omega arith) ∙ e3)
      (cap_between 4 n (omega arith) ∙ e4)
      ∙ sym (bad_lots m n vs room e3 e4)))
      (λ e3.
      bad_buyers (cap m) (cap n) (map cap vs) room (cap_between 6 m (omega arith) ∙ e3)
      ∙ sym (bad_buyers m n vs room e3))
