-- A table's sheet (`table_sheet`) has its worths (`table_there`), bounded as they are (`table_bounded`), and 0 for the
-- empty bundle (`table_empty`). If the table is `Tabled`, it has a shape (`table_shape`) and worths that grow
-- (`table-grows`), so its bytes are accepted and read as it is (`table_accepted`).
use mathlib.Core.Path.{◌≡◌, refl}
use mathlib.Core.Bool.{true}
use Prim.Native.Nat.{ℕ, ◌-◌, ◌^◌, ◌≤◌, ◌<◌}
use native.Mathlib.Omega.{arith}
use Rattle.theory.specs.Markets.{Table}
use Rattle.theory.proofs.Loops.{Filled, filled_tabulate}
use Rattle.numbers.specs.Numbers.{bit}
use Rattle.sheet.specs.Sheets.{Sheet, sheet_of, worth, bytes_of}
use Rattle.sheet.specs.Tables.{cell_at, cells, table_sheet}
use Rattle.sheet.specs.Questions.{sheet_fault}
use Rattle.sheet.specs.Claims.{Shape, Grows}
use Rattle.sheet.proofs.Places.{cell_empty}
use Rattle.sheet.proofs.Valued.{Bounded, worth_none, worth_there, laid_bounded, laid_shape}
use Rattle.sheet.proofs.Accepting.{sheets_all}

module _ (m n : ℕ) (v : Table) where
  abbrev u : Sheet
  u = table_sheet m n v

  laid : Filled (cell_at m n v) 96 96 (cells m n v)
  unfolding cells
  laid = filled_tabulate (cell_at m n v) 96

  pub table_there : m ≤ 6 → n ≤ 4 → (i s : ℕ) → i < m → s < 2 ^ n → worth u i s ≡ v i s
  table_there = worth_there m n v (cells m n v) laid

  pub table_empty : ((i : ℕ) → i < m → v i 0 ≡ 0) → (i : ℕ) → worth u i 0 ≡ 0
  table_empty free i =
      worth_none m n v (cells m n v) laid i 0 (omega arith) (cell_empty m n v i 0 (free i) refl)

  pub table_bounded : (c : ℕ) → ((i : ℕ) → i < m → v i 0 ≡ 0) → ((i s : ℕ) → i < m → s < 2 ^ n → v i s ≤ c) →
      Bounded u c
  table_bounded = laid_bounded m n v (cells m n v) laid

-- m and n as rule 1.2 has them, worths as rule 1.4 has them, and a bundle worth at least as much as with one lot fewer
pub record Tabled (m n : ℕ) (v : Table) : Type 0 where
  pub buyers : (1 ≤ m) × (m ≤ 6)
  pub lots : (1 ≤ n) × (n ≤ 4)
  pub empty : (i : ℕ) → i < m → v i 0 ≡ 0
  pub small : (i s : ℕ) → i < m → s < 2 ^ n → v i s ≤ 9999
  pub grows : (i s j : ℕ) → i < m → s < 2 ^ n → j < n → bit j s ≡ true → v i (s - 2 ^ j) ≤ v i s

module _ (m n : ℕ) (v : Table) (known : Tabled m n v) where
  pub table-worth : (i s : ℕ) → i < m → s < 2 ^ n → worth (u m n v) i s ≡ v i s
  table-worth = table_there m n v known.buyers.1 known.lots.1

  pub table_shape : Shape (u m n v)
  table_shape =
      laid_shape m n v (cells m n v) (laid m n v) known.buyers known.lots known.empty known.small

  pub table-grows : Grows (u m n v)
  table-grows i s j g h l t =
      rw (table-worth i s g h, table-worth i (s - 2 ^ j) g (omega arith)) (known.grows i s j g h l t)

  pub table_accepted : ((sheet_fault (bytes_of (u m n v))).number ≡ 0) × (sheet_of (bytes_of (u m n v)) ≡ u m n v)
  table_accepted = sheets_all.bytes_accepted (u m n v) table_shape table-grows
