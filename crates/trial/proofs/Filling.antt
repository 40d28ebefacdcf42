-- The list of worths as it is filled, place by place: what stands in it of the buyer at hand is that buyer's row so far
-- (`filled_row`), and the next worth is raised by the next draw (`filled_next`). Assumes that the places before are
-- filled.
use mathlib.Core.Path.{◌≡◌, sym, ap, ap₂, ◌∙◌}
use mathlib.Core.List.{List}
use Prim.Native.Nat.{ℕ, suc, ◌+◌, ◌-◌, ◌*◌, ◌/◌, ◌%◌, ◌^◌, ◌≤◌, ◌<◌}
use native.Mathlib.Nat.{div-add-mod'}
use native.Mathlib.Numerals.{add-one}
use native.Mathlib.Omega.{arith}
use lib.ListN.{length, take, drop, get_or, length-drop}
use lib.Seq.{length-take-le, get_or-take, get_or-drop, ext_get_or}
use Rattle.theory.proofs.Loops.{Filled}
use Rattle.numbers.proofs.Numbers.{place_below, count-line, count_place}
use Rattle.generator.specs.declared.Generator.{Generator}
use Rattle.generator.specs.Xorwow.{drawn, after, draw_number}
use Rattle.trial.specs.Worths.{row_worth, drawn_worth, most_fewer, row_up_to, draw_for, trial_table, trial_at}
use Rattle.trial.proofs.Rows.{row-length, row_last, row_kept}

module _ (N n top size : ℕ) (is : size ≡ 2 ^ n - 1) (some : 1 ≤ size) where
  -- place c of line i, from 0 on, in the list
  pub trial_place : (i c : ℕ) → c < size →
      trial_at N n top (i * size + c) ≡ get_or (row_up_to n top (draw_for N n i) (suc c)) c 0
  trial_place i c less =
      let line : (i * size + c) / (2 ^ n - 1) ≡ i = rw (← is) (count-line size some i c less) in
      let at : (i * size + c) % (2 ^ n - 1) ≡ c = rw (← is) (count_place size some i c less) in
      ap₂ (λ x y. trial_table N n top x (suc y)) line at

  module _ (k : ℕ) (t : List ℕ) (low : k < 90) (filled : Filled (trial_at N n top) 90 k t) where
    abbrev i : ℕ
    i = k / size

    abbrev c : ℕ
    c = k % size

    abbrev row : List ℕ
    row = row_up_to n top (draw_for N n i) c

    abbrev part : List ℕ
    part = take (k - (k - c)) (drop (k - c) t)

    below : c < size
    below = place_below k size some

    whole : i * size + c ≡ k
    whole = div-add-mod' k size

    from : k - c ≡ i * size
    from = omega (arith, whole)

    long : k - (k - c) ≡ c
    long = omega (arith, whole)

    part_length : length part ≡ c
    part_length =
        length-take-le (k - (k - c)) (drop (k - c) t)
        (omega (arith, length-drop (k - c) t, filled.long, long, whole))
        ∙ long

    pub filled_row : part ≡ row
    filled_row =
        ext_get_or 0 part row (part_length ∙ sym (row-length n top (draw_for N n i) c)) (λ d h.
        let less : d < c = omega (arith, part_length) in
        let at : k - c + d ≡ i * size + d = omega (arith, from) in
        get_or-take (k - (k - c)) (drop (k - c) t) d 0 (omega (arith, long))
        ∙ get_or-drop (k - c) t d 0
        ∙ filled.done (k - c + d) (omega (arith, whole))
        ∙ ap (trial_at N n top) at
        ∙ trial_place i d (omega (arith, below))
        ∙ sym (row_kept n top (draw_for N n i) c d less))

    -- the next state, draw and worth
    pub filled_next : (g : Generator) → g ≡ after (100 * N + k) → (fewer : ℕ) →
        fewer ≡ most_fewer n (row_worth part) (c + 1) → drawn_worth top fewer (drawn g).value ≡ trial_at N n top k
    filled_next g e fewer f =
        let draws = draw_for N n i in
        let next : 100 * N + (i * (2 ^ n - 1) + suc c) ≡ suc (100 * N + k) = omega (arith, whole, ap (λ z. i * z) is) in
        let value : (drawn g).value ≡ draws (suc c) = ap (λ s. (drawn s).value) e ∙ sym (ap draw_number next) in
        let fewest : fewer ≡ most_fewer n (row_worth row) (suc c) =
        f ∙ ap (λ l. most_fewer n (row_worth l) (c + 1)) filled_row ∙ ap (most_fewer n (row_worth row)) (add-one c) in
        ap₂ (drawn_worth top) fewest value ∙ sym (row_last n top draws c) ∙ sym (trial_place i c below)
        ∙ ap (trial_at N n top) whole
