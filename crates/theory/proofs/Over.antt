-- Lists written over others: what stands where (`over_early`, `over_late`, `over_long`), one number more (`over_more`),
-- and a part lent from n on that comes back with more written at its front (`over_then`).
use mathlib.Core.Path.{◌≡◌, refl, ap, ◌∙◌}
use mathlib.Core.List.{List, [], ◌∷◌, ◌++◌, append_assoc, append-nil}
use Prim.Native.Nat.{ℕ, ◌+◌, ◌-◌, ◌≤◌, ◌<◌}
use native.Mathlib.Numerals.{add-one}
use native.Mathlib.Omega.{arith}
use lib.ListN.{length, take, drop, set, get_or, length-append, length-drop}
use lib.ListN.{drop_of_length-le, get_or-append}
use lib.Seq.{drop-cons, set-append_seam, take_all, take_at, drop_at, drop-drop, get_or-drop, get_or-append-add}
use borrow.Rule.Slice.PartMut.{put_mid}
use Rattle.theory.specs.Lists.{over}

pub over_early : (xs ys : List ℕ) (k : ℕ) → k < length xs → get_or (over xs ys) k 0 ≡ get_or xs k 0
over_early xs ys k h = get_or-append xs (drop (length xs) ys) 0 k h

pub over_late : (xs ys : List ℕ) (k : ℕ) → length xs ≤ k → get_or (over xs ys) k 0 ≡ get_or ys k 0
over_late xs ys k h =
    let e : length xs + (k - length xs) ≡ k = omega arith in
    ap (λ j. get_or (over xs ys) j 0) (omega arith) ∙ get_or-append-add xs (drop (length xs) ys) (k - length xs) 0
    ∙ get_or-drop (length xs) ys (k - length xs) 0 ∙ ap (λ j. get_or ys j 0) e

pub over_long : (xs ys : List ℕ) → length xs ≤ length ys → length (over xs ys) ≡ length ys
over_long xs ys h = rw (length-append, length-drop) (omega arith)

pub over_more : (xs ys : List ℕ) (b n : ℕ) → length xs ≡ n → n < length ys →
    set (over xs ys) n b ≡ over (xs ++ (b ∷ [])) ys
over_more xs ys b n e h =
    rw (e, drop-cons ys n 0 h, ← e, set-append_seam, length-append, add-one, append_assoc) refl

-- l is what was lent, with xs written; the part of it from n on comes back as `last`
pub over_then : (xs ys o l last : List ℕ) (n : ℕ) → length xs ≡ n → n + length ys ≤ length o → l ≡ over xs o →
    last ≡ over ys (take (length l - n) (drop n l)) → put_mid n (length l - n) l last ≡ over (xs ++ ys) o
over_then xs ys o l last n en h e g =
    let len : length l ≡ length o = ap length e ∙ over_long xs o (omega arith) in
    let d : drop n l ≡ drop n o = rw e (drop_at xs (drop (length xs) o) n en ∙ rw en refl) in
    let t : take (length l - n) (drop n l) ≡ drop n o =
    rw d (take_all (length l - n) (drop n o) (rw length-drop (omega arith))) in
    let p : drop (length l - n) (drop n l) ≡ [] =
    rw d (drop_of_length-le (drop n o) {i = length l - n} (rw length-drop (omega arith))) in
    let k : take n l ≡ xs = rw e (take_at xs (drop (length xs) o) n en) in
    rw (k, p, append-nil, g, t, append_assoc, length-append, en, drop-drop) refl
