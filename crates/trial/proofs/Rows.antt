-- A buyer's worths as they are drawn: how many they are (`row-length`), that those drawn once stay (`row_kept`), that
-- none is above 9,999 (`row_small`), and what `worth_without` answers of a lot that the bundle has (`without_all`,
-- `without-some`).
use mathlib.Core.Path.{◌≡◌, refl, sym, ap, ◌∙◌}
use mathlib.Core.Logic.{◌≢◌, ⊎_elim}
use mathlib.Core.Bool.{Bool, true}
use mathlib.Core.List.{List, []}
use Prim.Native.Nat.{ℕ, zero, suc, ◌-◌, ◌^◌, ◌≤◌, ◌<◌}
use native.Mathlib.Nat.{eq-or-lt_of_le}
use native.Mathlib.Omega.{arith}
use native.Mathlib.Decide.{dec_lt}
use lib.ListN.{length, get_or, length-append, get_or-append, get_or-eq_default}
use lib.Seq.{get_or-append_seam}
use Rattle.numbers.specs.Numbers.{bit, Is}
use Rattle.trial.specs.Worths.{row_worth, worth_without, drawn_worth, most_fewer, row_up_to}

-- what bundle s is worth without its lot j + 1
module _ (row : List ℕ) (s j : ℕ) (x : Bool) (same : x ≡ bit j s) (e : x ≡ true) (p : ℕ) (power : p ≡ 2 ^ j) where
  -- nothing is left
  pub without_all : s - p ≡ 0 → Is (worth_without (row_worth row) s j) 0 9999
  without_all z =
      let none : s - 2 ^ j ≡ 0 = omega arith in
      record { is = rw (sym same ∙ e, none) refl; most = omega arith }

  pub without-some : ((k : ℕ) → get_or row k 0 ≤ 9999) → s - p ≢ 0 →
      Is (worth_without (row_worth row) s j) (get_or row (s - p - 1) 0) 9999
  without-some small some =
      let rest : s - 2 ^ j ≡ suc (s - p - 1) = omega arith in
      record { is = rw (sym same ∙ e, rest) refl; most = small (s - p - 1) }

-- a buyer's worths
module _ (n top : ℕ) (draws : ℕ → ℕ) where
  abbrev up : ℕ → List ℕ
  up = row_up_to n top draws

  pub row-length : (k : ℕ) → length (up k) ≡ k
  row-length zero = refl
  row-length (suc c) = length-append (up c) _ ∙ omega (arith, row-length c)

  -- the last is raised by its draw, and no later one changes it
  pub row_last : (c : ℕ) → get_or (up (suc c)) c 0 ≡ drawn_worth top (most_fewer n (row_worth (up c)) (suc c))
      (draws (suc c))
  row_last c =
      ap (λ k. get_or (up (suc c)) k 0) (sym (row-length c)) ∙ get_or-append_seam (up c) _ [] 0

  pub row_kept : (k c : ℕ) → c < k → get_or (up k) c 0 ≡ get_or (up (suc c)) c 0
  row_kept zero c h = absurd (omega arith)
  row_kept (suc k) c h =
      ⊎_elim
      (λ e. ap (λ i. get_or (up (suc i)) c 0) (sym e))
      (λ l. get_or-append (up k) _ 0 c (omega (arith, row-length k)) ∙ row_kept k c l)
      (eq-or-lt_of_le {n = c} {m = k} (omega arith))

  pub row_small : (k c : ℕ) → get_or (up k) c 0 ≤ 9999
  row_small k c =
      elim (dec_lt c k) [
        | yes h ↦ omega (arith, row_kept k c h, row_last c)
        | no h ↦ omega (arith, get_or-eq_default (up k) 0 {n = c} (omega (arith, row-length k)))
      ]
