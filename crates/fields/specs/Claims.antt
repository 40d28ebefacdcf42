-- What is claimed of fields (`Fields`): the sum of a field's digits goes from column to column as the running value
-- does, and is the field's number. Examples by `values_after` and `broken_after`, which have the answers for 1 to 6
-- columns.
use Rattle.std.specs.Prelude.{◌≡◌, ◌↔◌, Bool, true, false, List, [], ◌∷◌, ◌++◌, ℕ, ◌+◌, ◌*◌, ◌≤◌, ◌<◌, length, take}
use Rattle.std.specs.Prelude.{drop, Ok, is_err}
use Rattle.theory.specs.Tests.{some}
use Rattle.theory.specs.Lists.{tabulate}
use Rattle.fields.specs.Fields.{field_at, is_digit, digits_sum, broken_by, running_at, running_value}

abbrev pub values_after : List ℕ → List ℕ
values_after l = tabulate 6 1 (λ k. running_value (running_at 0 k l))

abbrev pub broken_after : List ℕ → List Bool
broken_after l = tabulate 6 1 (λ k. is_err (running_at 0 k l))

pub record Fields : Type 0 where
  -- the sum is 0 while there is no digit; a digit more makes it ten times itself plus that digit; a blank leaves it
  pub running_none : (l : List ℕ) → some is_digit l ≡ false → digits_sum l ≡ 0
  pub running_step : (l : List ℕ) (d : ℕ) → d < 10 → digits_sum (l ++ ((48 + d) ∷ [])) ≡ 10 * digits_sum l + d
  pub running_blank : (l : List ℕ) → digits_sum (l ++ (32 ∷ [])) ≡ digits_sum l
  -- when a field has the number v
  pub field_by_sum : (b : List ℕ) (at v : ℕ) →
      (field_at at b ≡ Ok v) ↔ ((at + 6 ≤ length b)
      × (broken_by 6 (take 6 (drop at b)) ≡ false)
      × (some is_digit (take 6 (drop at b)) ≡ true)
      × (v ≡ digits_sum (take 6 (drop at b))))
  -- "     0", "   105", and "    03", which is broken from column 5 on; and a blank after a digit, which does not count
  pub running_0 : values_after (32 ∷ 32 ∷ 32 ∷ 32 ∷ 32 ∷ 48 ∷ []) ≡ 0 ∷ 0 ∷ 0 ∷ 0 ∷ 0 ∷ 0 ∷ []
  pub running_105 : values_after (32 ∷ 32 ∷ 32 ∷ 49 ∷ 48 ∷ 53 ∷ []) ≡ 0 ∷ 0 ∷ 0 ∷ 1 ∷ 10 ∷ 105 ∷ []
  pub broken_03 : broken_after (32 ∷ 32 ∷ 32 ∷ 32 ∷ 48 ∷ 51 ∷ []) ≡ false ∷ false ∷ false ∷ false ∷ true ∷ true ∷ []
  pub sum_1 : digits_sum (49 ∷ 32 ∷ []) ≡ 1
