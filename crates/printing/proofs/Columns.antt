-- A number printed column by column, the last one first: what stands in a column (`column_digit`,
-- `column_blank`), one column more (`put_next`), and the end (`put_all`).
use mathlib.Core.Path.{◌≡◌, refl, sym, ap, ◌∙◌}
use mathlib.Core.List.{List, [], ◌∷◌, ◌++◌, append_assoc}
use Prim.Native.Nat.{ℕ, suc, ◌+◌, ◌-◌, ◌/◌, ◌%◌, ◌^◌, ◌≤◌, ◌<◌}
use native.Mathlib.Nat.{div-div-eq-div-mul, pow-suc}
use native.Mathlib.Numerals.{add-one}
use native.Mathlib.Omega.{arith}
use lib.Dec.{leb}
use lib.ListN.{length, take, drop, set, get_or}
use lib.Seq.{set-append_seam, take-suc, length-take-le}
use borrow.Author.Tests.{le-leb, leb-true, le-ltb}
use Rattle.theory.specs.Lists.{over}
use Rattle.theory.proofs.Tests.{by_test}
use Rattle.fields.specs.Fields.{columns}
use Rattle.fields.proofs.Digits.{column, each_column, columns_each}
use Rattle.fields.proofs.Lines.{columns-length}

-- the list o with the last k of the six columns of n
abbrev pub last_put : ℕ → List ℕ → ℕ → List ℕ
last_put n o k = take (6 - k) o ++ (each_column k n ++ drop 6 o)

-- the last column has a digit, and so has each other one that the number reaches
pub column_digit : (k x : ℕ) → (1 ≤ k → 1 ≤ x) → column k x ≡ 48 + x % 10
column_digit k x h =
    by_test (leb 1 k) (λ e. rw (e, le-ltb x 1 (h (leb-true 1 k e))) refl) (λ e. rw e refl)

pub column_blank : (k x : ℕ) → 1 ≤ k → x ≡ 0 → column k x ≡ 32
column_blank k x h e = rw (le-leb 1 k h, e) refl

-- the number up to the next column
pub left_next : (n k : ℕ) → n / 10 ^ k / 10 ≡ n / 10 ^ (k + 1)
left_next n k =
    div-div-eq-div-mul n (10 ^ k) 10 ∙ ap (λ x. n / x) (sym (pow-suc 10 k) ∙ ap (λ i. 10 ^ i) (sym (add-one k)))

module _ (n : ℕ) (o : List ℕ) (room : 6 ≤ length o) where
  pub put_next : (k b : ℕ) → k < 6 → b ≡ column k (n / 10 ^ k) →
      set (last_put n o k) (5 - k) b ≡ last_put n o (k + 1)
  put_next k b h e =
      let j = 5 - k in
      let now : 6 - k ≡ suc j = omega arith in
      let next : 6 - (k + 1) ≡ j = omega arith in
      let long : length (take j o) ≡ j = length-take-le j o (omega arith) in
      let tail = each_column k n ++ drop 6 o in
      ap (λ i. set (take i o ++ tail) j b) now
      ∙ ap (λ l. set (l ++ tail) j b) (take-suc o j 0 (omega arith))
      ∙ ap (λ l. set l j b) (append_assoc (take j o) (get_or o j 0 ∷ []) tail)
      ∙ ap (λ i. set (take j o ++ (get_or o j 0 ∷ tail)) i b) (sym long)
      ∙ set-append_seam (take j o) (get_or o j 0) tail b
      ∙ ap (λ x. take j o ++ (x ∷ tail)) e
      ∙ ap (λ i. take i o ++ (each_column (suc k) n ++ drop 6 o)) (sym next)
      ∙ ap (λ i. take (6 - (k + 1)) o ++ (each_column i n ++ drop 6 o)) (sym (add-one k))

  pub put_all : (k : ℕ) → k ≡ 6 → n < 1000000 → last_put n o k ≡ over (columns 6 n) o
  put_all k e small =
      ap (last_put n o) e ∙ ap (λ l. l ++ drop 6 o) (sym (columns_each 6 n small))
      ∙ ap (λ i. columns 6 n ++ drop i o) (sym (columns-length 6 n))
