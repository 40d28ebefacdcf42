-- A text put into a buffer, or not (`puts_whole`, `puts_none`), and the three parts of a settled sale, one after
-- another (`all_put`), or none of them (`all_none`).
use mathlib.Core.Path.{◌≡◌, refl, sym, ap, ◌∙◌}
use mathlib.Core.List.{List, [], ◌∷◌, ◌++◌, append_assoc}
use Prim.Native.Nat.{ℕ, ◌+◌, ◌-◌, ◌*◌, ◌≤◌, ◌<◌}
use native.Mathlib.Omega.{arith}
use lib.ListN.{length, take, drop, length-append}
use borrow.Rule.Slice.PartMut.{put_mid}
use Rattle.theory.specs.Lists.{tabulate, over}
use Rattle.theory.proofs.Over.{over_then}
use Rattle.fields.specs.Fields.{line_of, lines_of}
use Rattle.fields.proofs.Lines.{line-length, lines-length, lines-append}
use Rattle.sale.specs.declared.Sale.{Sale}
use Rattle.printed.specs.Printed.{lot_line, buyer_line, settled_text, Puts}

pub puts_none : (text o : List ℕ) → length o < length text → Puts text o o 0
puts_none text o h = record { whole = λ l. absurd (omega arith); none = λ _. (refl, refl) }

pub puts_whole : (text o o' : List ℕ) (r : ℕ) → length text ≤ length o → r ≡ length text → o' ≡ over text o →
    Puts text o o' r
puts_whole text o o' r h er eo = record { whole = λ _. (er, eo); none = λ l. absurd (omega arith) }

module _ (r : Sale) where
  abbrev first_line : List ℕ
  first_line = 0 ∷ r.buyers ∷ r.lots ∷ r.rounds ∷ []

  abbrev first : List ℕ
  first = line_of first_line

  abbrev lot_lines : List ℕ
  lot_lines = lines_of (tabulate r.lots 0 (lot_line r.owners))

  abbrev buyer_lines : List ℕ
  buyer_lines = lines_of (tabulate r.buyers 0 (buyer_line r))

  first-length : length first ≡ 25
  first-length = line-length first_line

  lots_length : length lot_lines ≡ 13 * r.lots
  lots_length = lines-length (lot_line r.owners) 13 (λ j. line-length (lot_line r.owners j)) r.lots 0

  buyers_length : length buyer_lines ≡ 25 * r.buyers
  buyers_length = lines-length (buyer_line r) 25 (λ i. line-length (buyer_line r i)) r.buyers 0

  text_parts : (first ++ lot_lines) ++ buyer_lines ≡ settled_text r
  text_parts =
      append_assoc first lot_lines buyer_lines
      ∙ ap (λ x. first ++ x)
      (sym (lines-append (tabulate r.lots 0 (lot_line r.owners)) (tabulate r.buyers 0 (buyer_line r))))

  pub text_length : length (settled_text r) ≡ 25 + 13 * r.lots + 25 * r.buyers
  text_length =
      ap length (sym text_parts) ∙ length-append (first ++ lot_lines) buyer_lines
      ∙ omega (arith, length-append first lot_lines, first-length, lots_length, buyers_length)

  pub all_none : (o : List ℕ) → length o < 25 + 13 * r.lots + 25 * r.buyers → Puts (settled_text r) o o 0
  all_none o h = puts_none (settled_text r) o (omega (arith, text_length))

  -- l has the first line, then l₂ the lots
  module _ (o l last : List ℕ) (room : 25 + 13 * r.lots ≤ length o) (e : l ≡ over first o)
      (g : last ≡ over lot_lines (take (length l - 25) (drop 25 l))) where
    abbrev l₂ : List ℕ
    l₂ = put_mid 25 (length l - 25) l last

    parts_two : l₂ ≡ over (first ++ lot_lines) o
    parts_two = over_then first lot_lines o l last 25 first-length (omega (arith, lots_length)) e g

    module _ (last₂ : List ℕ) (at : ℕ) (ea : at ≡ 25 + 13 * r.lots)
        (all : 25 + 13 * r.lots + 25 * r.buyers ≤ length o)
        (h : last₂ ≡ over buyer_lines (take (length l₂ - at) (drop at l₂))) where
      parts_all : put_mid at (length l₂ - at) l₂ last₂ ≡ over (settled_text r) o
      parts_all =
          over_then (first ++ lot_lines) buyer_lines o l₂ last₂ at
          (length-append first lot_lines ∙ omega (arith, first-length, lots_length)) (omega (arith, buyers_length))
          parts_two h
          ∙ ap (λ x. over x o) text_parts

      pub all_put : Puts (settled_text r) o (put_mid at (length l₂ - at) l₂ last₂) (25 + 13 * r.lots + 25 * r.buyers)
      all_put = puts_whole (settled_text r) o _ _ (omega (arith, text_length)) (sym text_length) parts_all
