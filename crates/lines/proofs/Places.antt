-- Places of a sheet's lines, as the functions look at them. Whether a place has a worth (`by_bundle`); questions 7 and 8
-- at a field (`large_field`, `falls_field`); one lot of a bundle (`grows_by`): whether the bundle s is worth no less than
-- without lot j + 1, whose share of the bundle's number is p.
use mathlib.Core.Path.{◌≡◌, ap}
use mathlib.Core.Logic.{◌≢◌}
use mathlib.Core.Bool.{Bool, true, false, not}
use mathlib.Core.List.{List}
use Prim.Native.Nat.{ℕ, suc, ◌+◌, ◌-◌, ◌*◌, ◌/◌, ◌%◌, ◌^◌, ◌≤◌, ◌<◌}
use native.Mathlib.Numerals.{add-one}
use native.Mathlib.Omega.{arith}
use lib.Dec.{leb, ltb}
use lib.ListN.{get_or}
use borrow.Author.Tests.{le-leb, lt-ltb}
use Rattle.theory.specs.Tests.{◌⊃◌}
use Rattle.numbers.specs.Numbers.{bit}
use Rattle.sheet.specs.Sheets.{Sheet, worth}
use Rattle.sheet.specs.Tables.{has_worth}
use Rattle.sheet.specs.Questions.{too_large, grows, falls}

pub by_bundle : (m n k z : ℕ) → k % 16 ≢ 0 → k / 16 < m → z ≡ 2 ^ n → ltb (k % 16) z ≡ has_worth m n k
by_bundle m n k z some h e = rw (le-leb 1 (k % 16) (omega arith), lt-ltb (k / 16) m h) (ap (ltb (k % 16)) e)

module _ (w : Sheet) (i c : ℕ) (h : c + 1 < 2 ^ w.lots) where
  field_here : ltb (suc c) (2 ^ w.lots) ≡ true
  field_here = lt-ltb (suc c) (2 ^ w.lots) (omega arith)

  pub large_field : ltb 9999 (worth w i (c + 1)) ≡ too_large w i c
  large_field = rw (field_here, add-one c)

  pub falls_field : (t : Bool) → t ≡ grows w i (c + 1) → not t ≡ falls w i c
  falls_field t e = rw (field_here, e) (ap (λ s. not (grows w i s)) (add-one c))

abbrev pub grows_by : List ℕ → ℕ → ℕ → ℕ → Bool
grows_by ws i s j = bit j s ⊃ leb (get_or ws (16 * i + (s - 2 ^ j)) 0) (get_or ws (16 * i + s) 0)

module _ (ws : List ℕ) (i s j : ℕ) where
  pub lot_lacking : bit j s ≡ false → grows_by ws i s j ≡ true
  lot_lacking e = rw e

  pub lot_fine : bit j s ≡ true → (p : ℕ) → p ≡ 2 ^ j → get_or ws (16 * i + (s - p)) 0 ≤ get_or ws (16 * i + s) 0 →
      grows_by ws i s j ≡ true
  lot_fine e p share h = rw (e, le-leb _ _ (rw share at h))
