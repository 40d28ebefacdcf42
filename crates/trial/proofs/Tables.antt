-- The table that is drawn: what the greatest worth with one lot fewer is (`fewer_upper`, `fewer_reached`); each worth
-- by that (`trial_worth`), none above 9,999 (`trial_small`), none below those (`trial_grows`); and the list of it,
-- which has as many numbers as a sheet (`list_length`), and these (`list-worth`, `list_small`).
use mathlib.Core.Path.{◌≡◌, refl, sym, ap, ◌∙◌}
use mathlib.Core.Bool.{true}
use mathlib.Core.List.{List}
use Prim.Native.Nat.{ℕ, zero, suc, ◌+◌, ◌-◌, ◌*◌, ◌/◌, ◌%◌, ◌^◌, ◌≤◌, ◌<◌}
use native.Mathlib.Omega.{arith}
use lib.ListN.{length, take, get_or}
use Rattle.theory.specs.Sums.{when}
use Rattle.theory.specs.Lists.{tabulate, up_to}
use Rattle.theory.proofs.Lists.{most_upper, most_same, most-reached, tabulate-at, tabulate-length, tabulate-take}
use Rattle.theory.proofs.Lists.{tabulate_each, up_to_in}
use Rattle.theory.proofs.Tests.{by_test}
use Rattle.numbers.specs.Numbers.{bit}
use Rattle.numbers.proofs.Numbers.{pow_some, count_below}
use Rattle.numbers.proofs.Subsets.{bit_le, bit-some}
use Rattle.writing.specs.Lists.{listed}
use Rattle.trial.specs.Worths.{row_worth, worth_without, drawn_worth, most_fewer, row_up_to, draw_for, trial_table}
use Rattle.trial.specs.Worths.{trial_at, trial_list, most_worths}
use Rattle.trial.proofs.Rows.{row_last, row_kept, row_small}
use Rattle.trial.proofs.Filling.{trial_place}

-- the greatest worth with one lot fewer is that of some bundle, and none is greater
module _ (n : ℕ) (v : ℕ → ℕ) (s : ℕ) where
  without_is : (j : ℕ) → bit j s ≡ true → worth_without v s j ≡ v (s - 2 ^ j)
  without_is j t = ap (λ x. when x (v (s - 2 ^ j))) t

  pub fewer_upper : (j : ℕ) → j < n → bit j s ≡ true → v (s - 2 ^ j) ≤ most_fewer n v s
  fewer_upper j l t =
      omega (arith, without_is j t, most_upper (worth_without v s) (up_to_in n 0 {i = j} (omega arith)))

  pub fewer_reached : 1 ≤ s → s < 2 ^ n → (j : ℕ) × (bit j s ≡ true) × (most_fewer n v s ≡ v (s - 2 ^ j))
  fewer_reached some h =
      let (k, l, b) = bit-some n s some h in
      let (j, _, is) = most-reached (worth_without v s) (up_to_in n 0 {i = k} (omega arith)) in
      by_test (bit j s)
      (λ t. (j, t, sym is ∙ without_is j t))
      (λ t.
      let none : worth_without v s j ≡ 0 = ap (λ x. when x (v (s - 2 ^ j))) t in
      (k, b, omega (arith, is, none, fewer_upper k l b)))

module _ (N n top i : ℕ) where
  abbrev v : ℕ → ℕ
  v = trial_table N n top i

  abbrev up : ℕ → List ℕ
  up = row_up_to n top (draw_for N n i)

  -- the worths so far are those of the table
  row-worth : (c t : ℕ) → t ≤ c → row_worth (up c) t ≡ v t
  row-worth c zero h = refl
  row-worth c (suc d) h = row_kept n top (draw_for N n i) c d (omega arith)

  without-worth : (c j : ℕ) → worth_without (row_worth (up c)) (suc c) j ≡ worth_without v (suc c) j
  without-worth c j =
      by_test (bit j (suc c))
      (λ e. rw e (row-worth c (suc c - 2 ^ j) (omega (arith, pow_some j))))
      (λ e. rw e refl)

  pub trial_worth : (c : ℕ) → v (suc c) ≡ drawn_worth top (most_fewer n v (suc c)) (draw_for N n i (suc c))
  trial_worth c =
      row_last n top (draw_for N n i) c
      ∙ ap (λ x. drawn_worth top x (draw_for N n i (suc c)))
      (most_same (worth_without (row_worth (up c)) (suc c)) (worth_without v (suc c)) (up_to n 0)
      (λ j _. without-worth c j))

  pub trial_small : (s : ℕ) → v s ≤ 9999
  trial_small zero = omega arith
  trial_small (suc c) = row_small n top (draw_for N n i) (suc c) c

  pub trial_grows : (s j : ℕ) → j < n → bit j s ≡ true → v (s - 2 ^ j) ≤ v s
  trial_grows zero j l t = absurd (omega (arith, bit_le j 0 t, pow_some j))
  trial_grows (suc c) j l t =
      omega (arith, fewer_upper n v (suc c) j l t, trial_worth c, trial_small (suc c - 2 ^ j))

pub most-length : (N n top : ℕ) → length (most_worths N n top) ≡ 90
unfolding most_worths
most-length N n top = tabulate-length 90 0 (trial_at N n top)

module _ (N m n top : ℕ) where
  pub list_length : length (trial_list N m n top) ≡ m * (2 ^ n - 1)
  unfolding trial_list
  list_length = tabulate-length (m * (2 ^ n - 1)) 0 (trial_at N n top)

  -- it is the front of the greatest one
  pub list_front : (l : List ℕ) (count : ℕ) → l ≡ most_worths N n top → count ≡ m * (2 ^ n - 1) → count ≤ 90 →
      take count l ≡ trial_list N m n top
  unfolding most_worths trial_list
  list_front l count e is few =
      ap (take count) e ∙ tabulate-take count 90 0 (trial_at N n top) few
      ∙ ap (λ k. tabulate k 0 (trial_at N n top)) is

  pub list_small : (k : ℕ) → get_or (trial_list N m n top) k 0 ≤ 9999
  unfolding trial_list
  list_small =
      tabulate_each (λ x. x ≤ 9999) 0 (m * (2 ^ n - 1)) 0 (trial_at N n top) (omega arith)
      (λ k _. trial_small N n top (k / (2 ^ n - 1)) (suc (k % (2 ^ n - 1))))

  pub list-worth : (i s : ℕ) → i < m → s < 2 ^ n → listed n (trial_list N m n top) i s ≡ trial_table N n top i s
  unfolding trial_list
  list-worth i zero h g = refl
  list-worth i (suc c) h g =
      let size = 2 ^ n - 1 in
      let some : 1 ≤ size = omega arith in
      let less : c < size = omega arith in
      let none : 0 + (i * size + c) ≡ i * size + c = omega arith in
      tabulate-at (m * size) 0 (trial_at N n top) (i * size + c) 0 (count_below size some m i c h less)
      ∙ ap (trial_at N n top) none ∙ trial_place N n top size refl some i c less
