-- Questions 1 to 5 in their order: what each answer says of the sheet's fault, one law for each way out of `ask_head`.
use mathlib.Core.Path.{◌≡◌, sym, ap, ◌∙◌}
use mathlib.Core.Bool.{Bool, true, false}
use mathlib.Core.List.{List}
use Prim.Native.Nat.{ℕ, ◌+◌, ◌*◌, ◌<◌, ◌≤◌}
use lib.ListN.{length}
use borrow.Author.Tests.{le-leb, lt-leb, eq-eqb, ne_eqb}
use Rattle.theory.proofs.Tests.{and_means, leb_means}
use Rattle.fields.specs.Fields.{number_at}
use Rattle.sheet.specs.Sheets.{line_length, sheet_of}
use Rattle.sheet.specs.Questions.{fault, head_good, between, lines_fault, sheet_fault}
use Rattle.reading.specs.declared.FirstLine.{FirstLine}
use Rattle.reading.specs.Steps.{HeadRead}

pub between_ends : (k m : ℕ) → between k m ≡ true → (1 ≤ m) × (m ≤ k)
between_ends k m e = (and_means (leb_means 1 m) (leb_means m k)).0 e

module _ (b : List ℕ) where
  pub short_sheet : length b < 13 → sheet_fault b ≡ fault 1 0
  unfolding sheet_fault
  short_sheet h = rw (lt-leb 13 (length b) h)

  module _ (long : 13 ≤ length b) where
    pub bad_head : head_good b ≡ false → sheet_fault b ≡ fault 2 0
    unfolding sheet_fault
    bad_head e = rw (le-leb 13 (length b) long, e)

    -- h is the first line as it was read
    module _ (h : FirstLine) (read : HeadRead b h) where
      buyers_between : (t : Bool) → between 6 h.buyers ≡ t → between 6 (number_at 0 b) ≡ t
      buyers_between t q = sym (ap (between 6) read.buyers) ∙ q

      lots_between : (t : Bool) → between 4 h.lots ≡ t → between 4 (number_at 6 b) ≡ t
      lots_between t q = sym (ap (between 4) read.lots) ∙ q

      pub bad_buyers : between 6 h.buyers ≡ false → sheet_fault b ≡ fault 3 0
      unfolding sheet_fault
      bad_buyers q = rw (le-leb 13 (length b) long, read.good, buyers_between false q)

      module _ (q3 : between 6 h.buyers ≡ true) where
        pub bad_lots : between 4 h.lots ≡ false → sheet_fault b ≡ fault 4 0
        unfolding sheet_fault
        bad_lots q = rw (le-leb 13 (length b) long, read.good, buyers_between true q3, lots_between false q)

        module _ (q4 : between 4 h.lots ≡ true) (l : ℕ) (el : l ≡ line_length h.lots) where
          length_is : 13 + h.buyers * l ≡ 13 + number_at 0 b * line_length (number_at 6 b)
          length_is = rw (el, read.buyers, read.lots)

          pub bad_length : (length b ≡ 13 + h.buyers * l → ⊥) → sheet_fault b ≡ fault 5 0
          unfolding sheet_fault
          bad_length q =
              rw (
                le-leb 13 (length b) long,
                read.good,
                buyers_between true q3,
                lots_between true q4,
                ne_eqb (length b) (13 + number_at 0 b * line_length (number_at 6 b)) (λ y. q (y ∙ sym length_is)),
              )

          pub head_passes : length b ≡ 13 + h.buyers * l → sheet_fault b ≡ lines_fault b (sheet_of b)
          unfolding sheet_fault
          head_passes q =
              rw (
                le-leb 13 (length b) long,
                read.good,
                buyers_between true q3,
                lots_between true q4,
                eq-eqb (length b) (13 + number_at 0 b * line_length (number_at 6 b)) (q ∙ length_is),
              )
