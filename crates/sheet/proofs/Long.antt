-- A sheet of 560 bytes or more is refused by questions 2 to 5 (`long_refused`), and its bytes past those make no
-- difference (`long_alike`).
use mathlib.Core.Path.{◌≡◌, refl, sym, ◌∙◌}
use mathlib.Core.Logic.{◌≢◌}
use mathlib.Core.Bool.{Bool}
use mathlib.Core.List.{List, ◌++◌}
use Prim.Native.Nat.{ℕ, ◌+◌, ◌*◌, ◌≤◌}
use native.Mathlib.Nat.{mul-le-mul}
use native.Mathlib.Omega.{arith}
use lib.ListN.{length, drop, length-append, length-drop, get_or-append}
use lib.Seq.{drop-append-le, take-append-le}
use borrow.Author.Tests.{le-leb, le-ltb, ne_eqb}
use Rattle.theory.proofs.Tests.{by_test}
use Rattle.fields.specs.Fields.{field_at, number_at}
use Rattle.numbers.proofs.Numbers.{pow_small}
use Rattle.sheet.specs.declared.Fault.{Fault}
use Rattle.sheet.specs.Sheets.{line_length}
use Rattle.sheet.specs.Questions.{fault, ask, head_good, between, sheet_fault}
use Rattle.sheet.proofs.Faults.{between_means, all_yes}

-- what questions 2 to 5 answer of a sheet that is too long for any number of buyers and lots
abbrev early : Bool → ℕ → ℕ → Fault
early head m n =
    ask 2 head λ _.
    ask 3 (between 6 m) λ _.
    ask 4 (between 4 n) λ _.
    fault 5 0

-- six buyers and four lots take 559 bytes
pub most_bytes : (m n : ℕ) → m ≤ 6 → n ≤ 4 → 13 + m * line_length n ≤ 559
most_bytes m n few short =
    let wide : line_length n ≤ 91 = omega (arith, pow_small n short) in
    omega (arith, mul-le-mul few wide)

module _ (b : List ℕ) (long : 560 ≤ length b) where
  found_early : sheet_fault b ≡ early (head_good b) (number_at 0 b) (number_at 6 b)
  unfolding sheet_fault
  found_early =
      let m = number_at 0 b in
      let n = number_at 6 b in
      rw (le-leb 13 (length b) (omega arith))
      (by_test (head_good b)
      (λ h.
      by_test (between 6 m)
      (λ few.
      by_test (between 4 n)
      (λ short. rw (
        h,
        few,
        short,
        ne_eqb (length b) (13 + m * line_length n)
            (λ e. omega (arith, most_bytes m n ((between_means 6 m).0 few).1 ((between_means 4 n).0 short).1)),
      ) refl)
      (λ short. rw (h, few, short) refl))
      (λ few. rw (h, few) refl))
      (λ h. rw h refl))

  pub long_refused : (sheet_fault b).number ≢ 0
  long_refused z =
      let yes_to = (all_yes b).0 z in
      omega (arith, yes_to 5, most_bytes (number_at 0 b) (number_at 6 b) (yes_to 3).1 (yes_to 4).1)

-- a field within the first bytes
pub field_front : (a c : List ℕ) (at : ℕ) → at + 6 ≤ length a → field_at at (a ++ c) ≡ field_at at a
field_front a c at h =
    rw (
      le-ltb (length (a ++ c)) (at + 6) (omega (arith, length-append a c)),
      le-ltb (length a) (at + 6) h,
      drop-append-le at a c (omega arith),
      take-append-le 6 (drop at a) c (omega (arith, length-drop at a)),
    ) refl

pub long_alike : (a c : List ℕ) → 560 ≤ length a → sheet_fault (a ++ c) ≡ sheet_fault a
long_alike a c h =
    found_early (a ++ c) (omega (arith, length-append a c))
    ∙ rw (field_front a c 0 (omega arith), field_front a c 6 (omega arith), get_or-append a c 0 12 (omega arith))
    (sym (found_early a h))
