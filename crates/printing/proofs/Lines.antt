-- A line printed field by field: one field more (`fields_more`), and the line end (`line_end`); and lines of the same
-- length, one line more (`lines_more`). Assumes room for them.
use mathlib.Core.Path.{◌≡◌, sym, ap, ◌∙◌}
use mathlib.Core.List.{List, [], ◌∷◌, ◌++◌, append-nil}
use Prim.Native.Nat.{ℕ, suc, ◌+◌, ◌-◌, ◌*◌, ◌≤◌, ◌<◌}
use native.Mathlib.Nat.{zero-add}
use native.Mathlib.Numerals.{add-one}
use native.Mathlib.Omega.{arith}
use lib.ListN.{length, take, drop, set, get_or}
use lib.Seq.{take-suc, length-take-le}
use borrow.Rule.Slice.PartMut.{put_mid}
use Rattle.theory.specs.Lists.{tabulate, over}
use Rattle.theory.proofs.Lists.{tabulate-last}
use Rattle.theory.proofs.Over.{over_more, over_then}
use Rattle.fields.specs.Fields.{columns, fields_of, line_of, lines_of}
use Rattle.fields.proofs.Lines.{columns-length, fields_length, fields_append, lines-append, lines-length}

module _ (ns o : List ℕ) (k : ℕ) (l : List ℕ) (e : l ≡ over (fields_of (take k ns)) o) (h : k ≤ length ns) where
  so_far : length (fields_of (take k ns)) ≡ 6 * k
  so_far = fields_length (take k ns) ∙ ap (λ j. 6 * j) (length-take-le k ns h)

  -- the buffer from column 6 * k on comes back with a number
  pub fields_more : k < length ns → 6 * k + 6 ≤ length o → (at : ℕ) → at ≡ 6 * k → (last : List ℕ) →
      last ≡ over (columns 6 (get_or ns k 0)) (take (length l - at) (drop at l)) →
      put_mid at (length l - at) l last ≡ over (fields_of (take (k + 1) ns)) o
  fields_more less room at ea last el =
      over_then (fields_of (take k ns)) (columns 6 (get_or ns k 0)) o l last at (so_far ∙ sym ea)
      (omega (arith, columns-length 6 (get_or ns k 0))) e el
      ∙ ap (λ x. over x o) (one_more ∙ ap (λ j. fields_of (take j ns)) (sym (add-one k)))
    where
      one_more : fields_of (take k ns) ++ columns 6 (get_or ns k 0) ≡ fields_of (take (suc k) ns)
      one_more =
          ap (λ x. fields_of (take k ns) ++ x) (sym (append-nil (columns 6 (get_or ns k 0))))
          ∙ sym (fields_append (take k ns) (get_or ns k 0 ∷ []))
          ∙ ap fields_of (sym (take-suc ns k 0 less))

  pub line_end : 6 * k < length o → (end : ℕ) → end ≡ 6 * k → set l end 10 ≡ over (line_of (take k ns)) o
  line_end room end ee =
      ap (λ x. set x end 10) e ∙ over_more (fields_of (take k ns)) o 10 end (so_far ∙ sym ee) (omega arith)

-- lines of the same length, one after another
module _ (f : ℕ → List ℕ) (wide : ℕ) (each : (i : ℕ) → length (line_of (f i)) ≡ wide) where
  module _ (o : List ℕ) (k : ℕ) (l : List ℕ) (e : l ≡ over (lines_of (tabulate k 0 f)) o) where
    -- the buffer from line k on comes back with a line
    pub lines_more : wide * k + wide ≤ length o → (at : ℕ) → at ≡ wide * k → (last vs : List ℕ) → vs ≡ f k →
        last ≡ over (line_of vs) (take (length l - at) (drop at l)) →
        put_mid at (length l - at) l last ≡ over (lines_of (tabulate (k + 1) 0 f)) o
    lines_more room at ea last vs ev el =
        over_then (lines_of (tabulate k 0 f)) (line_of (f k)) o l last at (lines-length f wide each k 0 ∙ sym ea)
        (omega (arith, each k)) e (el ∙ ap (λ v. over (line_of v) (take (length l - at) (drop at l))) ev)
        ∙ ap (λ x. over x o) (one_more ∙ ap (λ j. lines_of (tabulate j 0 f)) (sym (add-one k)))
      where
        one_more : lines_of (tabulate k 0 f) ++ line_of (f k) ≡ lines_of (tabulate (suc k) 0 f)
        one_more =
            ap (λ x. lines_of (tabulate k 0 f) ++ x) (sym (append-nil (line_of (f k))))
            ∙ sym (lines-append (tabulate k 0 f) (f k ∷ []))
            ∙ ap lines_of (ap (λ i. tabulate k 0 f ++ (f i ∷ [])) (sym (zero-add k)) ∙ sym (tabulate-last k 0 f))
