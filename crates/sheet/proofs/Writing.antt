-- The bytes of a table are `Written` as the table asks, place by place (`bytes_written`), and no others are
-- (`written_same`).
use mathlib.Core.Path.{◌≡◌, sym, ap, ◌∙◌}
use mathlib.Core.List.{List, [], ◌∷◌, ◌++◌, append_assoc, append-nil}
use Prim.Native.Nat.{ℕ, suc, ◌+◌, ◌-◌, ◌*◌, ◌/◌, ◌%◌, ◌^◌, ◌≤◌, ◌<◌}
use native.Mathlib.Nat.{mul_comm, zero-add, div-add-mod', div-lt_iff_lt-mul, mod-lt}
use native.Mathlib.Omega.{arith}
use native.Mathlib.Decide.{dec_lt}
use lib.ListN.{length, take, drop, get_or, length-append}
use lib.Seq.{take_at, drop_at, drop-drop, drop-append-add, get_or-take, get_or-drop, ext_get_or}
use Rattle.theory.specs.Lists.{tabulate}
use Rattle.theory.proofs.Lists.{tabulate-length}
use Rattle.fields.specs.Fields.{columns, fields_of, line_of, lines_of}
use Rattle.fields.proofs.Lines.{columns-length, line-length, fields_drop, lines-length, lines-drop}
use Rattle.numbers.proofs.Numbers.{pow_some}
use Rattle.sheet.specs.Sheets.{line_length, offset, Sheet, worth, line_worths, bytes_of}
use Rattle.sheet.specs.Claims.{start_of}

-- a sheet's bytes place by place: the first line, and each buyer's line, in the columns in which their numbers are
-- written
pub record Written (b : List ℕ) (w : Sheet) : Type 0 where
  pub long : length b ≡ 13 + w.buyers * (6 * (2 ^ w.lots - 1) + 1)
  pub buyers : take 6 b ≡ columns 6 w.buyers
  pub lots : take 6 (drop 6 b) ≡ columns 6 w.lots
  pub head_end : get_or b 12 0 ≡ 10
  pub worths : (i c : ℕ) → i < w.buyers → suc c < 2 ^ w.lots →
      take 6 (drop (start_of w.lots i c) b) ≡ columns 6 (worth w i (suc c))
  pub ends : (i : ℕ) → i < w.buyers → get_or b (start_of w.lots i (2 ^ w.lots - 1)) 0 ≡ 10

module _ (w : Sheet) where
  abbrev m : ℕ
  m = w.buyers

  abbrev n : ℕ
  n = w.lots

  abbrev size : ℕ
  size = 2 ^ n - 1

  abbrev row : ℕ → List ℕ
  row = line_worths w

  abbrev head : List ℕ
  head = line_of (m ∷ n ∷ [])

  abbrev lines : List ℕ
  lines = lines_of (tabulate m 0 row)

  pub row_long : (i : ℕ) → length (line_of (row i)) ≡ line_length n
  row_long i = line-length (row i) ∙ ap (λ k. 6 * k + 1) (tabulate-length size _ (worth w i))

  head_long : length head ≡ 13
  head_long = line-length (m ∷ n ∷ [])

  long : length (bytes_of w) ≡ 13 + m * line_length n
  long =
      length-append head lines ∙ omega (
        arith,
        head_long,
        lines-length row (line_length n) row_long m 0,
        mul_comm m (line_length n),
      )

  -- the first line in its parts
  in_parts : bytes_of w ≡ columns 6 m ++ (columns 6 n ++ (10 ∷ lines))
  in_parts =
      ap (λ x. ((columns 6 m ++ x) ++ (10 ∷ [])) ++ lines) (append-nil (columns 6 n))
      ∙ append_assoc (columns 6 m ++ columns 6 n) (10 ∷ []) lines
      ∙ append_assoc (columns 6 m) (columns 6 n) (10 ∷ lines)

  past_buyers : drop 6 (bytes_of w) ≡ columns 6 n ++ (10 ∷ lines)
  past_buyers = ap (drop 6) in_parts ∙ drop_at (columns 6 m) (columns 6 n ++ (10 ∷ lines)) 6 (columns-length 6 m)

  past_lots : drop 12 (bytes_of w) ≡ 10 ∷ lines
  past_lots =
      sym (drop-drop 6 6 (bytes_of w)) ∙ ap (drop 6) past_buyers
      ∙ drop_at (columns 6 n) (10 ∷ lines) 6 (columns-length 6 n)

  -- what stands from a place on
  from_place : (i c : ℕ) → i < m → c ≤ size →
      drop (offset n i c) (bytes_of w)
      ≡ fields_of (tabulate (size - c) (1 + c) (worth w i)) ++ (10 ∷ lines_of (tabulate (m - suc i) (suc i) row))
  from_place i c h g =
      let rest = lines_of (tabulate (m - suc i) (suc i) row) in
      let one : m - i ≡ suc (m - suc i) = omega arith in
      let start : 13 ≡ length head = sym head_long in
      ap (λ k. drop (k + (i * line_length n + 6 * c)) (bytes_of w)) start
      ∙ drop-append-add head lines (i * line_length n + 6 * c)
      ∙ sym (drop-drop (6 * c) (i * line_length n) lines)
      ∙ ap (drop (6 * c))
      (lines-drop row (line_length n) row_long m 0 i (omega arith)
      ∙ rw (one, zero-add i) (append_assoc (fields_of (row i)) (10 ∷ []) rest))
      ∙ fields_drop size _ (worth w i) (10 ∷ rest) c g

  pub bytes_written : Written (bytes_of w) w
  bytes_written =
      record {
        long = long;
        buyers = ap (take 6) in_parts ∙ take_at (columns 6 m) (columns 6 n ++ (10 ∷ lines)) 6 (columns-length 6 m);
        lots = ap (take 6) past_buyers ∙ take_at (columns 6 n) (10 ∷ lines) 6 (columns-length 6 n);
        head_end = sym (get_or-drop 12 (bytes_of w) 0 0) ∙ ap (λ l. get_or l 0 0) past_lots;
        worths = λ i c h g.
            let more : size - c ≡ suc (size - suc c) = omega arith in
            let next : 1 + c ≡ suc c = omega arith in
            let rest = lines_of (tabulate (m - suc i) (suc i) row) in
            let later = fields_of (tabulate (size - suc c) (suc (suc c)) (worth w i)) in
            let there : drop (offset n i c) (bytes_of w) ≡ columns 6 (worth w i (suc c)) ++ (later ++ (10 ∷ rest)) =
            rw (more, next) at (from_place i c h (omega arith))
            ∙ append_assoc (columns 6 (worth w i (suc c))) later (10 ∷ rest) in
            ap (take 6) there
            ∙ take_at (columns 6 (worth w i (suc c))) (later ++ (10 ∷ rest)) 6 (columns-length 6 (worth w i (suc c)));
        ends = λ i h.
            let none : size - size ≡ 0 = omega arith in
            let same : offset n i size + 0 ≡ offset n i size = omega arith in
            let end : drop (offset n i size) (bytes_of w) ≡ 10 ∷ lines_of (tabulate (m - suc i) (suc i) row) =
            rw none at (from_place i size h (omega arith)) in
            ap (λ k. get_or (bytes_of w) k 0) (sym same) ∙ sym (get_or-drop (offset n i size) (bytes_of w) 0 0)
            ∙ ap (λ l. get_or l 0 0) end;
      }

-- bytes that are written as the same table asks are the same
module _ (w : Sheet) (b c : List ℕ) (p : Written b w) (q : Written c w) where
  six_same : (at k j : ℕ) → take 6 (drop at b) ≡ take 6 (drop at c) → k < 6 → at + k ≡ j → get_or b j 0 ≡ get_or c j 0
  six_same at k j e h to =
      ap (λ x. get_or b x 0) (sym to) ∙ sym (get_or-take 6 (drop at b) k 0 h ∙ get_or-drop at b k 0)
      ∙ ap (λ l. get_or l k 0) e ∙ get_or-take 6 (drop at c) k 0 h ∙ get_or-drop at c k 0 ∙ ap (λ x. get_or c x 0) to

  line_same : (j : ℕ) → 13 ≤ j → j < length b → get_or b j 0 ≡ get_or c j 0
  line_same j l h =
      let size = 2 ^ w.lots - 1 in
      let wide = line_length w.lots in
      let x = j - 13 in
      let i = x / wide in
      let r = x % wide in
      let whole = div-add-mod' x wide in
      let less : i < w.buyers =
      (div-lt_iff_lt-mul {k = wide} {x = x} {y = w.buyers} (omega arith)).1 (omega (arith, p.long)) in
      let short : r < wide = mod-lt x (omega arith) in
      elim (dec_lt r (6 * size)) [
        | yes g ↦
            let place : suc (r / 6) < 2 ^ w.lots = omega (arith, pow_some w.lots) in
            six_same (offset w.lots i (r / 6)) (r % 6) j
            (p.worths i (r / 6) less place ∙ sym (q.worths i (r / 6) less place)) (omega arith)
            (omega (arith, whole))
        | no g ↦
            let to : offset w.lots i size ≡ j = omega (arith, whole) in
            ap (λ k. get_or b k 0) (sym to) ∙ p.ends i less ∙ sym (q.ends i less) ∙ ap (λ k. get_or c k 0) to
      ]

  byte_same : (j : ℕ) → j < length b → get_or b j 0 ≡ get_or c j 0
  byte_same j h =
      elim (dec_lt j 6) [
        | yes g ↦ six_same 0 j j (p.buyers ∙ sym q.buyers) g (omega arith)
        | no g ↦
            elim (dec_lt j 12) [
              | yes k ↦ six_same 6 (j - 6) j (p.lots ∙ sym q.lots) (omega arith) (omega arith)
              | no k ↦
                  elim (dec_lt j 13) [
                    | yes l ↦ let e : j ≡ 12 = omega arith in rw e (p.head_end ∙ sym q.head_end)
                    | no l ↦ line_same j (omega arith) h
                  ]
            ]
      ]

  pub written_same : b ≡ c
  written_same = ext_get_or 0 b c (p.long ∙ sym q.long) byte_same
