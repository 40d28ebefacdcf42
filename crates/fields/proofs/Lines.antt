-- Laws of written numbers: how long columns, fields and lines are, where a field (`fields_drop`) and a line
-- (`lines-drop`) stands among those before it, and where a line ends (`end_means`).
use mathlib.Core.Path.{◌≡◌, refl, sym, ap, ◌∙◌}
use mathlib.Core.Logic.{◌↔◌}
use mathlib.Core.Bool.{◌&&◌}
use mathlib.Core.List.{List, [], ◌∷◌, ◌++◌, append_assoc}
use Prim.Native.Nat.{ℕ, zero, suc, ◌+◌, ◌-◌, ◌*◌, ◌%◌, ◌^◌, ◌≤◌}
use native.Mathlib.Nat.{mul-suc, suc-mul}
use native.Mathlib.Omega.{arith}
use lib.Dec.{leb, ltb}
use lib.ListN.{length, take, drop, get_or, length-append}
use lib.Seq.{drop-drop, drop_at}
use Rattle.theory.specs.Lists.{tabulate}
use Rattle.theory.proofs.Tests.{by_test}
use Rattle.fields.specs.Fields.{digits, columns, fields_of, line_of, lines_of}

digits-length : (k v : ℕ) → length (digits k v) ≡ k
digits-length zero v = refl
digits-length (suc k) v = ap suc (digits-length k (v % 10 ^ k))

pub columns-length : (k v : ℕ) → length (columns k v) ≡ k
columns-length zero v = refl
columns-length (suc k) v =
    by_test (leb 1 k && ltb v (10 ^ k)) (λ t. rw t (ap suc (columns-length k v)))
    (λ t. rw t (ap suc (digits-length k (v % 10 ^ k))))

pub fields_length : (vs : List ℕ) → length (fields_of vs) ≡ 6 * length vs
fields_length [] = refl
fields_length (v ∷ vs) = length-append (columns 6 v) (fields_of vs)
    ∙ omega (arith, columns-length 6 v, fields_length vs)

pub fields_append : (vs us : List ℕ) → fields_of (vs ++ us) ≡ fields_of vs ++ fields_of us
fields_append [] us = refl
fields_append (v ∷ vs) us =
    ap (λ x. columns 6 v ++ x) (fields_append vs us) ∙ sym (append_assoc (columns 6 v) (fields_of vs) (fields_of us))

pub fields_drop : (k s : ℕ) (g : ℕ → ℕ) (rest : List ℕ) (c : ℕ) → c ≤ k →
    drop (6 * c) (fields_of (tabulate k s g) ++ rest) ≡ fields_of (tabulate (k - c) (s + c) g) ++ rest
fields_drop k s g rest zero h =
    let i : k - 0 ≡ k = omega arith in
    let j : s + 0 ≡ s = omega arith in
    rw (i, j) refl
fields_drop zero s g rest (suc c) h = absurd (omega arith)
fields_drop (suc k) s g rest (suc c) h =
    let fs = fields_of (tabulate k (suc s) g) in
    let six : 6 * suc c ≡ 6 + 6 * c = omega arith in
    let i : suc k - suc c ≡ k - c = omega arith in
    let j : s + suc c ≡ suc s + c = omega arith in
    rw (six, i, j)
    (sym (drop-drop (6 * c) 6 ((columns 6 (g s) ++ fs) ++ rest))
    ∙ ap (drop (6 * c)) (ap (drop 6) (append_assoc (columns 6 (g s)) fs rest)
    ∙ drop_at (columns 6 (g s)) (fs ++ rest) 6 (columns-length 6 (g s)))
    ∙ fields_drop k (suc s) g rest c (omega arith))

pub line-length : (vs : List ℕ) → length (line_of vs) ≡ 6 * length vs + 1
line-length vs = length-append (fields_of vs) (10 ∷ []) ∙ omega (arith, fields_length vs)

pub lines-append : (ls ks : List (List ℕ)) → lines_of (ls ++ ks) ≡ lines_of ls ++ lines_of ks
lines-append [] ks = refl
lines-append (l ∷ ls) ks =
    ap (λ x. line_of l ++ x) (lines-append ls ks) ∙ sym (append_assoc (line_of l) (lines_of ls) (lines_of ks))

-- lines of the same length
module _ (f : ℕ → List ℕ) (wide : ℕ) (each : (i : ℕ) → length (line_of (f i)) ≡ wide) where
  pub lines-length : (k s : ℕ) → length (lines_of (tabulate k s f)) ≡ wide * k
  lines-length zero s = omega arith
  lines-length (suc k) s =
      length-append (line_of (f s)) (lines_of (tabulate k (suc s) f))
      ∙ omega (arith, each s, lines-length k (suc s), mul-suc wide k)

  pub lines-drop : (k s i : ℕ) → i ≤ k →
      drop (i * wide) (lines_of (tabulate k s f)) ≡ lines_of (tabulate (k - i) (s + i) f)
  lines-drop k s zero h =
      let i : k - 0 ≡ k = omega arith in
      let j : s + 0 ≡ s = omega arith in
      let z : 0 * wide ≡ 0 = omega arith in
      rw (i, j, z) refl
  lines-drop zero s (suc c) h = absurd (omega arith)
  lines-drop (suc k) s (suc c) h =
      let ls = lines_of (tabulate k (suc s) f) in
      let more : suc c * wide ≡ wide + c * wide = omega (arith, suc-mul c wide) in
      let i : suc k - suc c ≡ k - c = omega arith in
      let j : s + suc c ≡ suc s + c = omega arith in
      rw (more, i, j)
      (sym (drop-drop (c * wide) wide (line_of (f s) ++ ls))
      ∙ ap (drop (c * wide)) (drop_at (line_of (f s)) ls wide (each s)) ∙ lines-drop k (suc s) c (omega arith))

-- a line end as one byte of a list, and as its entry
pub end_means : (b : List ℕ) (at : ℕ) → (take 1 (drop at b) ≡ 10 ∷ []) ↔ (get_or b at 0 ≡ 10)
end_means (x ∷ b) zero = (λ e. ap (λ l. get_or l 0 0) e, λ e. ap (λ y. y ∷ []) e)
end_means (x ∷ b) (suc at) = end_means b at
end_means [] zero = (λ e. ap (λ l. get_or l 0 0) e, λ e. absurd (omega arith))
end_means [] (suc at) = (λ e. ap (λ l. get_or l 0 0) e, λ e. absurd (omega arith))
