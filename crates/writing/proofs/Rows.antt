-- A list's numbers as the sheet that it fills has them (`listed-worth`), and line by line: where a line stands in the
-- list (`row_within`) and in the buffer (`lines_within`, `row_fits`), and what it has (`row_is`, `row_small`). Assumes
-- a list that `Fills` a sheet.
use mathlib.Core.Path.{◌≡◌, sym, ap, ◌∙◌}
use mathlib.Core.List.{List}
use Prim.Native.Nat.{ℕ, suc, ◌+◌, ◌-◌, ◌*◌, ◌^◌, ◌≤◌, ◌<◌}
use native.Mathlib.Nat.{mul_comm, mul-suc, suc-mul, mul-le-mul_left, mul-le-mul_right}
use native.Mathlib.Omega.{arith}
use native.Mathlib.Decide.{dec_lt}
use lib.ListN.{length, take, drop, get_or, length-drop, get_or-eq_default}
use lib.Seq.{get_or-take, get_or-drop, ext_get_or, length-take-le}
use Rattle.theory.proofs.Lists.{tabulate-at, tabulate-length}
use Rattle.numbers.proofs.Numbers.{pow_some}
use Rattle.sheet.specs.Sheets.{line_length, Sheet, worth, line_worths}
use Rattle.sheet.proofs.Tables.{table_there}
use Rattle.writing.specs.Lists.{listed, list_sheet, Fills}

module _ (m n : ℕ) (vs : List ℕ) where
  abbrev w : Sheet
  w = list_sheet m n vs

  abbrev size : ℕ
  size = 2 ^ n - 1

  pub listed-worth : m ≤ 6 → n ≤ 4 → (i s : ℕ) → i < m → s < 2 ^ n → worth w i s ≡ listed n vs i s
  listed-worth = table_there m n (listed n vs)

  -- the code's size of a line, in numbers and in bytes
  module _ (known : Fills m n vs) (z wide : ℕ) (ez : z ≡ size) (ew : wide ≡ line_length n) where
    pub lines_within : (i o : ℕ) → line_length n * m ≤ o → i < m → wide * i + wide ≤ o
    lines_within i o room h =
        omega (arith, ap (λ x. x * m) ew, mul-suc wide i, mul-le-mul_left {m = suc i} {n = m} wide h)

    -- line i of the list
    module _ (i : ℕ) (h : i < m) where
      pub row_within : z * i + z ≤ length vs
      row_within =
          omega (
            arith,
            known.right,
            ap (λ x. m * x) ez,
            mul_comm z i,
            suc-mul i z,
            mul-le-mul_right {m = suc i} {n = m} z h,
          )

      abbrev part : List ℕ
      part = take (z * i + z - z * i) (drop (z * i) vs)

      pub row-length : length part ≡ z
      row-length =
          let back : z * i + z - z * i ≡ z = omega arith in
          rw back (length-take-le z (drop (z * i) vs) (rw length-drop (omega (arith, row_within))))

      -- in a buffer from that line on it has room
      pub row_fits : (l : List ℕ) → wide * i + wide ≤ length l →
          6 * length part < length (take (length l - wide * i) (drop (wide * i) l))
      row_fits l room =
          rw (row-length, length-take-le (length l - wide * i) (drop (wide * i) l) (rw length-drop (omega arith)))
          (omega (arith, ez, ew))

      pub row_is : part ≡ line_worths w i
      row_is =
          let there = listed-worth known.few_buyers known.few_lots in
          ext_get_or 0 part (line_worths w i) (row-length ∙ ez ∙ sym (tabulate-length size 1 (worth w i))) (λ c g.
          let short : c < z = omega (arith, row-length) in
          let less : c < size = omega (arith, ez) in
          let place : z * i + c ≡ i * size + c = omega (arith, mul_comm z i, ap (λ x. i * x) ez) in
          let next : 1 + c ≡ suc c = omega arith in
          get_or-take (z * i + z - z * i) (drop (z * i) vs) c 0 (omega arith) ∙ get_or-drop (z * i) vs c 0
          ∙ ap (λ k. get_or vs k 0) place ∙ sym (there i (suc c) h (omega (arith, pow_some n)))
          ∙ ap (worth w i) (sym next) ∙ sym (tabulate-at size 1 (worth w i) c 0 less))

      pub row_small : (k : ℕ) → get_or part k 0 < 1000000
      row_small k =
          elim (dec_lt k z) [
            | yes g ↦
                rw (get_or-take (z * i + z - z * i) (drop (z * i) vs) k 0 (omega arith), get_or-drop (z * i) vs k 0)
                (known.small (z * i + k))
            | no g ↦ rw (get_or-eq_default part 0 {n = k} (omega (arith, row-length))) (omega arith)
          ]
