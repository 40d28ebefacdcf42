-- Numbers in fields, one after another: each is read as it is (`listed-read`), and bytes that have a number's columns
-- in every field are such a list (`fields_listed`).
use mathlib.Core.Path.{◌≡◌, refl, sym, ap, ap₂, ◌∙◌}
use mathlib.Core.List.{List, [], ◌∷◌, ◌++◌}
use Prim.Native.Nat.{ℕ, zero, suc, ◌+◌, ◌*◌, ◌≤◌, ◌<◌}
use native.Mathlib.Omega.{arith}
use lib.ListN.{length, take, drop, get_or, length-drop, take-append-drop}
use lib.Seq.{take_at, drop_at, drop-drop}
use Rattle.theory.specs.Lists.{tabulate}
use Rattle.theory.proofs.Lists.{tabulate-shift}
use Rattle.std.specs.Prelude.{Ok}
use Rattle.fields.specs.Fields.{field_at, columns, fields_of}
use Rattle.fields.proofs.Canonical.{field_canonical}
use Rattle.fields.proofs.Lines.{columns-length, fields_length}

field_in : (l : List ℕ) (k : ℕ) → k < length l →
    drop (6 * k) (fields_of l) ≡ columns 6 (get_or l k 0) ++ fields_of (drop (suc k) l)
field_in [] k h = absurd (omega arith)
field_in (v ∷ l) zero h = refl
field_in (v ∷ l) (suc k) h =
    let six : 6 * suc k ≡ 6 + 6 * k = omega arith in
    ap (λ j. drop j (fields_of (v ∷ l))) six ∙ sym (drop-drop (6 * k) 6 (fields_of (v ∷ l)))
    ∙ ap (drop (6 * k)) (drop_at (columns 6 v) (fields_of l) 6 (columns-length 6 v)) ∙ field_in l k (omega arith)

pub listed-read : (l : List ℕ) (k : ℕ) → k < length l → get_or l k 0 ≤ 999999 →
    field_at (6 * k) (fields_of l) ≡ Ok (get_or l k 0)
listed-read l k h small =
    (field_canonical (fields_of l) (6 * k) (get_or l k 0)).1 (
      omega (arith, fields_length l),
      small,
      ap (take 6) (field_in l k h)
          ∙ take_at (columns 6 (get_or l k 0)) (fields_of (drop (suc k) l)) 6 (columns-length 6 (get_or l k 0)),
    )

pub fields_listed : (k : ℕ) (b : List ℕ) (g : ℕ → ℕ) → length b ≡ 6 * k →
    ((j : ℕ) → j < k → take 6 (drop (6 * j) b) ≡ columns 6 (g j)) → b ≡ fields_of (tabulate k 0 g)
fields_listed zero [] g long each = refl
fields_listed zero (x ∷ b) g long each = absurd (omega arith)
fields_listed (suc k) b g long each =
    let rest : drop 6 b ≡ fields_of (tabulate k 1 g) =
    fields_listed k (drop 6 b) (λ j. g (suc j)) (rw length-drop (omega arith)) (λ j h.
    let six : 6 + 6 * j ≡ 6 * suc j = omega arith in
    ap (take 6) (drop-drop (6 * j) 6 b ∙ ap (λ i. drop i b) six) ∙ each (suc j) (omega arith))
    ∙ ap fields_of (sym (tabulate-shift k 0 g)) in
    sym (take-append-drop 6 b) ∙ ap₂ ◌++◌ (each 0 (omega arith)) rest
