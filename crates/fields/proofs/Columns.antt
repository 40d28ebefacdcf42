-- The loop over a field's columns: what it knows after some of them (`SoFar`), with a blank and with a digit more, what
-- it answers, and the field by its answer for six columns (`field_broken`, `field_whole`).
use mathlib.Core.Path.{◌≡◌, refl, sym, ◌∙◌}
use mathlib.Core.Bool.{Bool, true, false, ◌||◌, or-true}
use mathlib.Core.List.{List}
use Prim.Native.Nat.{ℕ, suc, ◌+◌, ◌-◌, ◌*◌, ◌^◌, ◌≤◌, ◌<◌}
use native.Mathlib.Nat.{pow-suc}
use native.Mathlib.Numerals.{add-one}
use native.Mathlib.Omega.{arith}
use lib.Dec.{ltb}
use lib.ListN.{length, take, drop, get_or}
use lib.Seq.{take_all, get_or-take, get_or-drop}
use Rattle.theory.specs.Sums.{pick}
use Rattle.theory.specs.Tests.{some}
use Rattle.theory.specs.Lists.{up_to}
use Rattle.theory.proofs.Tests.{by_test, some_means, itself}
use Rattle.theory.proofs.Lists.{up_to_in}
use Rattle.std.specs.Prelude.{Option, Some, None, Ok, Err, is_some, unwrap_or, ok_or}
use Rattle.fields.specs.Fields.{field_from, is_digit, digits_sum, breaks_rule, breaks, broken_by, running_at}
use Rattle.fields.proofs.Scan.{digit_range, unbroken_digit, one_more, six_long, next}
use Rattle.fields.proofs.Sums.{begun_more, broken_more, sum_more, field_sum}

-- what the loop knows after k columns that break nothing
pub record SoFar (l : List ℕ) (k : ℕ) (f : Bool) (v : ℕ) : Type 0 where
  pub unbroken : broken_by k l ≡ false
  pub begun : f ≡ some is_digit (take k l)
  pub value : v ≡ digits_sum (take k l)
  pub small : v < 10 ^ k

-- the loop at column k of the six from `at` on
module _ (s : List ℕ) (at k : ℕ) (f : Bool) (v : ℕ) (room : at + 6 ≤ length s) (h : k < 6)
    (x : SoFar (take 6 (drop at s)) k f v) where
  abbrev six : List ℕ
  six = take 6 (drop at s)

  abbrev b : ℕ
  b = get_or s (at + k) 0

  long : length six ≡ 6
  long = six_long s at room

  here : get_or six k 0 ≡ b
  here = get_or-take 6 (drop at s) k 0 h ∙ get_or-drop at s k 0

  breaks_here : breaks six k ≡ breaks_rule f (ltb (k + 1) 6) b
  breaks_here = rw (add-one, here, long, x.begun) refl

  next_small : next v b < 10 ^ suc k
  next_small =
      by_test (is_digit b)
      (λ e. rw e (one_more k v (b - 48) x.small (omega (arith, digit_range b e))))
      (λ e. rw (e, pow-suc) (omega (arith, x.small)))

  more : breaks_rule f (ltb (k + 1) 6) b ≡ false → SoFar six (suc k) (f || is_digit b) (next v b)
  more e =
      let room : k < length six = rw long h in
      record {
        unbroken = rw (broken_more six k room, x.unbroken, breaks_here) e;
        begun = rw (begun_more six k room, here, x.begun) refl;
        value = rw (sum_more six k room, here, x.value) refl;
        small = next_small;
      }

  pub blank_more : breaks_rule f (ltb (k + 1) 6) b ≡ false → b ≡ 32 → SoFar six (k + 1) f v
  blank_more e z =
      let none : f ≡ false = rw z at e in
      rw (add-one, none) (rw (z, none) at (more e))

  pub digit_more : breaks_rule f (ltb (k + 1) 6) b ≡ false → (b ≡ 32 → ⊥) → SoFar six (k + 1) true (10 * v + (b - 48))
  digit_more e z = rw add-one (rw (unbroken_digit f (ltb (k + 1) 6) b e z, or-true) at (more e))

  pub running_broken : (n : ℕ) → k < n → breaks_rule f (ltb (k + 1) 6) b ≡ true → Err at ≡ running_at at n six
  running_broken n g e =
      let any : broken_by n six ≡ true =
      (some_means (up_to n 0) (λ j _. itself (breaks six j))).1 (k, up_to_in n 0 (omega arith), breaks_here ∙ e) in
      rw any refl

pub running_whole : (at : ℕ) (l : List ℕ) (n : ℕ) (o : Option ℕ) → SoFar l n (is_some o) (unwrap_or o 0) →
    Ok o ≡ running_at at n l
running_whole at l n None x = rw (x.unbroken, ← x.begun) refl
running_whole at l n (Some v) x = rw (x.unbroken, ← x.begun, ← x.value) refl

-- the field by what is known after six columns
module _ (at : ℕ) (l : List ℕ) (six : length l ≡ 6) where
  field_known : field_from at l ≡ pick (broken_by 6 l) (Err at) (pick (some is_digit l) (Ok (digits_sum l)) (Err at))
  field_known = rw six at (field_sum at l)

  all_six : take 6 l ≡ l
  all_six = take_all 6 l (omega arith)

  pub field_broken : (i : ℕ) → Err i ≡ running_at at 6 l → Err i ≡ field_from at l
  field_broken i e =
      by_test (broken_by 6 l)
      (λ t. let h = rw t at e in let same : i ≡ at = cc in let known = rw t at field_known in rw same (sym known))
      (λ t. let h = rw t at e in cc)

  pub field_whole : (o : Option ℕ) → Ok o ≡ running_at at 6 l → ok_or o at ≡ field_from at l
  field_whole o e =
      by_test (broken_by 6 l)
      (λ t. let h = rw t at e in cc)
      (λ t.
      let h = rw (t, all_six) at e in
      let o_is : o ≡ pick (some is_digit l) (Some (digits_sum l)) None = cc in
      rw o_is (by_test (some is_digit l) (λ d. rw d (sym (rw (t, d) at field_known)))
      (λ d. rw d (sym (rw (t, d) at field_known)))))
