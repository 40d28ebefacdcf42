-- Ninety-six worths that are laid out from a table, sixteen to a line: which are 0 (`worth_none`), which the table's
-- (`worth_there`), that they are `Bounded` as the table is (`laid_bounded`), and the shape of a sheet that has them
-- (`laid_shape`). The worths of any sheet are laid out from its fields (`worths_laid`, `worth-read`).
use mathlib.Core.Path.{◌≡◌, refl, sym, ◌∙◌}
use mathlib.Core.List.{List}
use Prim.Native.Nat.{ℕ, suc, ◌+◌, ◌*◌, ◌/◌, ◌%◌, ◌^◌, ◌≤◌, ◌<◌}
use native.Mathlib.Omega.{arith}
use native.Mathlib.Decide.{dec_le}
use lib.ListN.{length, get_or, get_or-eq_default}
use Rattle.theory.specs.Markets.{Table}
use Rattle.theory.proofs.Loops.{Filled, filled_tabulate}
use Rattle.numbers.proofs.Numbers.{pow_small}
use Rattle.fields.specs.Fields.{number_at}
use Rattle.sheet.specs.Sheets.{offset, Sheet, as_sheet, worth_in, worths_in, worth}
use Rattle.sheet.specs.Claims.{Shape}
use Rattle.sheet.specs.Tables.{cell, cell_at}
use Rattle.sheet.proofs.Places.{cell_empty, cell_nobody, cell_nothing, cell_there, cell_small}

-- ninety-six worths up to c; those of the empty bundle, absent buyers and absent bundles are 0
pub record Bounded (w : Sheet) (c : ℕ) : Type 0 where
  pub long : length w.worths ≡ 96
  pub small : (k : ℕ) → get_or w.worths k 0 ≤ c
  pub empty : (i : ℕ) → worth w i 0 ≡ 0
  pub nobody : (i s : ℕ) → s < 16 → w.buyers ≤ i → worth w i s ≡ 0
  pub nothing : (i s : ℕ) → s < 16 → 2 ^ w.lots ≤ s → worth w i s ≡ 0

module _ (m n : ℕ) (v : Table) (l : List ℕ) (laid : Filled (cell_at m n v) 96 96 l) where
  abbrev w : Sheet
  w = as_sheet m n l

  -- a worth is the one at its place, or 0 past the end
  worth-at : (i s : ℕ) → i < 6 → s < 16 → worth w i s ≡ cell m n v i s
  worth-at i s g h =
      let line : (16 * i + s) / 16 ≡ i = omega arith in
      let place : (16 * i + s) % 16 ≡ s = omega arith in
      laid.done (16 * i + s) (omega arith) ∙ rw (line, place)

  past : (k : ℕ) → 96 ≤ k → get_or l k 0 ≡ 0
  past k h = get_or-eq_default l 0 {n = k} (omega (arith, laid.long))

  pub worth_none : (i s : ℕ) → s < 16 → 0 ≡ cell m n v i s → worth w i s ≡ 0
  worth_none i s h e =
      elim (dec_le 6 i) [ yes g ↦ past (16 * i + s) (omega arith) | no g ↦ worth-at i s (omega arith) h ∙ sym e ]

  pub worth_there : m ≤ 6 → n ≤ 4 → (i s : ℕ) → i < m → s < 2 ^ n → worth w i s ≡ v i s
  worth_there few short i s g h =
      worth-at i s (omega arith) (omega (arith, pow_small n short)) ∙ sym (cell_there m n v i s g h)

  pub laid_bounded : (c : ℕ) → ((i : ℕ) → i < m → v i 0 ≡ 0) → ((i s : ℕ) → i < m → s < 2 ^ n → v i s ≤ c) →
      Bounded w c
  laid_bounded c free small =
      record {
        long = laid.long;
        small = λ k. elim (dec_le 96 k) [
          | yes h ↦ omega (arith, past k h)
          | no h ↦ rw (laid.done k (omega arith)) (cell_small m n v c small (k / 16) (k % 16))
        ];
        empty = λ i. worth_none i 0 (omega arith) (cell_empty m n v i 0 (free i) refl);
        nobody = λ i s h g. worth_none i s h (cell_nobody m n v i s g);
        nothing = λ i s h g. worth_none i s h (cell_nothing m n v i s g);
      }

  pub laid_shape : (1 ≤ m) × (m ≤ 6) → (1 ≤ n) × (n ≤ 4) → ((i : ℕ) → i < m → v i 0 ≡ 0) →
      ((i s : ℕ) → i < m → s < 2 ^ n → v i s ≤ 9999) → Shape w
  laid_shape buyers lots free small =
      let known = laid_bounded 9999 free small in
      record {
        some_buyers = buyers.0;
        few_buyers = buyers.1;
        some_lots = lots.0;
        few_lots = lots.1;
        long = known.long;
        small = known.small;
        empty = known.empty;
        nobody = known.nobody;
        nothing = known.nothing;
      }

-- the worths that bytes have
module _ (m n : ℕ) (b : List ℕ) where
  pub worths_laid : Filled (cell_at m n (worth_in n b)) 96 96 (worths_in m n b)
  unfolding worths_in
  worths_laid = filled_tabulate (cell_at m n (worth_in n b)) 96

  abbrev u : Sheet
  u = as_sheet m n (worths_in m n b)

  pub empty_worth : (i : ℕ) → worth u i 0 ≡ 0
  empty_worth i =
      worth_none m n (worth_in n b) (worths_in m n b) worths_laid i 0 (omega arith)
      (cell_empty m n (worth_in n b) i 0 (λ _. refl) refl)

  pub worth-read : m ≤ 6 → n ≤ 4 → (i c : ℕ) → i < m → suc c < 2 ^ n → worth u i (suc c) ≡ number_at (offset n i c) b
  worth-read few short i c g h = worth_there m n (worth_in n b) (worths_in m n b) worths_laid few short i (suc c) g h
