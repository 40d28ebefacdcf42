-- Loops over a range: what a definition over it still has to do from k on. Offers one law for each way through a loop
-- that looks for the first that passes (`least`), that tests all (`every`), that takes in one number after another
-- (`most`, `sum`, `some`, `every`), that fills a list place by place (`Filled`, `tabulate`), and that goes over one
-- place by place (`Revised`). A loop over a list: what is still to do from place k on, for the greatest value and for
-- whether some member passes (`some_walked`: a walk by places answers what `some` says).
use mathlib.Core.Path.{◌≡◌, refl, sym, ap, subst, ◌∙◌}
use mathlib.Core.Logic.{⊎_elim}
use mathlib.Core.Bool.{Bool, true, false, ◌&&◌, ◌||◌, and_assoc, or_assoc}
use mathlib.Core.List.{List, ◌∷◌}
use Prim.Native.Nat.{ℕ, zero, suc, max, ◌+◌, ◌-◌, ◌<◌, ◌≤◌}
use native.Mathlib.Nat.{zero-add, eq-or-lt_of_le}
use native.Mathlib.Numerals.{add-one}
use native.Mathlib.Omega.{arith}
use lib.ListN.{length, drop, get_or, set, length-set, drop_of_length-le}
use lib.Seq.{get_or-set_same, get_or-set_other, ext_get_or, drop-cons}
use Rattle.theory.specs.Sums.{pick, sum}
use Rattle.theory.specs.Lists.{most, tabulate, up_to}
use Rattle.theory.specs.Tests.{every, some, least}
use Rattle.theory.proofs.Lists.{tabulate-at, tabulate-length}
use Rattle.theory.proofs.Tests.{by_test}

-- T is what the whole loop answers
module _ (t : ℕ → Bool) (n k T : ℕ) where
  module _ (h : k < n) (inv : least (n - k) k t ≡ T) where
    least_opened : pick (t k) (suc k) (least (n - suc k) (suc k) t) ≡ T
    least_opened = let e : n - k ≡ suc (n - suc k) = omega arith in rw e at inv

    pub least_passed : t k ≡ false → least (n - (k + 1)) (k + 1) t ≡ T
    least_passed f = rw (add-one k) (rw f at least_opened)

    pub least_here : t k ≡ true → suc k ≡ T
    least_here f = rw f at least_opened

module _ (t : ℕ → Bool) (n k : ℕ) (T : Bool) where
  module _ (h : k < n) (inv : every (n - k) k t ≡ T) where
    every_opened : (t k && every (n - suc k) (suc k) t) ≡ T
    every_opened = let e : n - k ≡ suc (n - suc k) = omega arith in rw e at inv

    pub every_passed : t k ≡ true → every (n - (k + 1)) (k + 1) t ≡ T
    every_passed f = rw (add-one k) (rw f at every_opened)

    pub every_failed : t k ≡ false → false ≡ T
    every_failed f = rw f at every_opened

  pub every_done : n ≤ k → every (n - k) k t ≡ T → true ≡ T
  every_done h inv = let e : n - k ≡ 0 = omega arith in rw e at inv

-- what a loop has taken in is x, and with number k it is y
module _ (n k : ℕ) where
  module _ (h : k < n) where
    next : n - k ≡ suc (n - suc k)
    next = omega arith

    pub most_more : (f : ℕ → ℕ) (x y T : ℕ) → max x (most f (up_to (n - k) k)) ≡ T → y ≡ max x (f k) →
        max y (most f (up_to (n - (k + 1)) (k + 1))) ≡ T
    most_more f x y T inv e = rw (add-one k) (omega (arith, rw next at inv))

    pub sum_more : (f : ℕ → ℕ) (x y T : ℕ) → x + sum (n - k) k f ≡ T → y ≡ x + f k → y + sum (n - (k + 1)) (k + 1) f ≡ T
    sum_more f x y T inv e = rw (add-one k) (omega (arith, rw next at inv))

    pub some_more : (t : ℕ → Bool) (x y T : Bool) → (x || some t (up_to (n - k) k)) ≡ T → y ≡ (x || t k) →
        (y || some t (up_to (n - (k + 1)) (k + 1))) ≡ T
    some_more t x y T inv e = rw (add-one k, e) (or_assoc x (t k) (some t (up_to (n - suc k) (suc k))) ∙ rw next at inv)

    pub all_more : (t : ℕ → Bool) (x y T : Bool) → (x && every (n - k) k t) ≡ T → y ≡ (x && t k) →
        (y && every (n - (k + 1)) (k + 1) t) ≡ T
    all_more t x y T inv e = rw (add-one k, e) (and_assoc x (t k) (every (n - suc k) (suc k) t) ∙ rw next at inv)

  module _ (h : n ≤ k) where
    none : n - k ≡ 0
    none = omega arith

    pub sum_done : (f : ℕ → ℕ) (x T : ℕ) → x + sum (n - k) k f ≡ T → x ≡ T
    sum_done f x T inv = omega (arith, rw none at inv)

    pub some_done : (t : ℕ → Bool) (x T : Bool) → (x || some t (up_to (n - k) k)) ≡ T → x ≡ T
    some_done t true T inv = inv
    some_done t false T inv = rw none at inv

    pub all_done : (t : ℕ → Bool) (x T : Bool) → (x && every (n - k) k t) ≡ T → x ≡ T
    all_done t true T inv = rw none at inv
    all_done t false T inv = inv

-- over a list
module _ (l : List ℕ) (k : ℕ) where
  module _ (h : k < length l) where
    opened : drop k l ≡ get_or l k 0 ∷ drop (k + 1) l
    opened = rw (add-one k) (drop-cons l k 0 h)

    -- what a loop has taken in is x, and with place k it is y
    pub most_next : (f : ℕ → ℕ) (x y T : ℕ) → max x (most f (drop k l)) ≡ T → y ≡ max x (f (get_or l k 0)) →
        max y (most f (drop (k + 1) l)) ≡ T
    most_next f x y T inv e = omega (arith, ap (most f) opened)

    -- r is what the test answers at place k
    module _ (t : ℕ → Bool) (T r : Bool) (e : r ≡ t (get_or l k 0)) (inv : some t (drop k l) ≡ T) where
      pub some_next : r ≡ false → some t (drop (k + 1) l) ≡ T
      some_next h = rw (opened, sym e ∙ h) at inv

      pub some_here : r ≡ true → true ≡ T
      some_here h = rw (opened, sym e ∙ h) at inv

  module _ (h : length l ≤ k) where
    pub most-over : (f : ℕ → ℕ) (x T : ℕ) → max x (most f (drop k l)) ≡ T → x ≡ T
    most-over f x T inv = omega (arith, ap (most f) (drop_of_length-le l {i = k} h))

    pub some-over : (t : ℕ → Bool) (T : Bool) → some t (drop k l) ≡ T → false ≡ T
    some-over t T inv = rw (drop_of_length-le l {i = k} h) at inv

-- a walk over the n places from k on, which ends at the first that passes
pub some_walked : (t : ℕ → Bool) (l : List ℕ) (n k : ℕ) → k + n ≡ length l → (T : Bool) → some t (drop k l) ≡ T →
    some (λ j. t (get_or l j 0)) (up_to n k) ≡ T
some_walked t l zero k h T inv = some-over l k (omega (arith, h)) t T inv
some_walked t l (suc n) k h T inv =
    by_test (t (get_or l k 0))
    (λ p. rw p (some_here l k (omega (arith, h)) t T (t (get_or l k 0)) refl inv p))
    (λ p.
    let rest = some_next l k (omega (arith, h)) t T (t (get_or l k 0)) refl inv p in
    rw p (rw add-one at (some_walked t l n (k + 1) (omega (arith, h)) T rest)))

-- a list of n places, the first k of which hold the values of f
pub record Filled (f : ℕ → ℕ) (n k : ℕ) (l : List ℕ) : Type 0 where
  pub long : length l ≡ n
  pub done : (j : ℕ) → j < k → get_or l j 0 ≡ f j

pub filled_none : (f : ℕ → ℕ) (n : ℕ) (l : List ℕ) → length l ≡ n → Filled f n 0 l
filled_none f n l e = record { long = e; done = λ j h. absurd (omega arith) }

pub filled_more : (f : ℕ → ℕ) (n k v : ℕ) (l : List ℕ) → k < n → v ≡ f k → Filled f n k l →
    Filled f n (k + 1) (set l k v)
filled_more f n k v l h e g =
    record {
      long = length-set l k v ∙ g.long;
      done = λ j q. ⊎_elim
          (λ p. ap (λ i. get_or (set l k v) i 0) p ∙ get_or-set_same l k v 0 (omega (arith, g.long)) ∙ e ∙ ap f (sym p))
          (λ p. get_or-set_other l k j v 0 (λ z. omega arith) ∙ g.done j p)
          (eq-or-lt_of_le {n = j} {m = k} (omega arith));
    }

pub filled_all : (f : ℕ → ℕ) (n k : ℕ) (l : List ℕ) → n ≤ k → Filled f n k l → l ≡ tabulate n 0 f
filled_all f n k l h g =
    ext_get_or 0 l (tabulate n 0 f) (g.long ∙ sym (tabulate-length n 0 f))
    (λ j q. g.done j (omega (arith, g.long))
    ∙ sym (tabulate-at n 0 f j 0 (omega (arith, g.long)) ∙ ap f (zero-add j)))

pub filled_tabulate : (f : ℕ → ℕ) (n : ℕ) → Filled f n n (tabulate n 0 f)
filled_tabulate f n =
    record { long = tabulate-length n 0 f; done = λ j h. tabulate-at n 0 f j 0 h ∙ ap f (zero-add j) }

-- a list of n places that is gone over: the first k hold what P says, the others what they held
pub record Revised (P : ℕ → ℕ → Type 0) (n : ℕ) (old : List ℕ) (k : ℕ) (l : List ℕ) : Type 0 where
  pub long : length l ≡ n
  pub done : (j : ℕ) → j < k → P j (get_or l j 0)
  pub rest : (j : ℕ) → k ≤ j → get_or l j 0 ≡ get_or old j 0

pub revised_none : (P : ℕ → ℕ → Type 0) (n : ℕ) (old : List ℕ) → length old ≡ n → Revised P n old 0 old
revised_none P n old e = record { long = e; done = λ j h. absurd (omega arith); rest = λ j _. refl }

module _ (P : ℕ → ℕ → Type 0) (n : ℕ) (old : List ℕ) (k : ℕ) (l : List ℕ) (g : Revised P n old k l) where
  pub revised_set : k < n → (v : ℕ) → P k v → Revised P n old (k + 1) (set l k v)
  revised_set h v p =
      record {
        long = length-set l k v ∙ g.long;
        done = λ j q. ⊎_elim
            (λ e. subst (λ i. P i (get_or (set l k v) i 0)) (sym e)
            (subst (P k) (sym (get_or-set_same l k v 0 (omega (arith, g.long)))) p))
            (λ q. subst (P j) (sym (get_or-set_other l k j v 0 (λ z. omega arith))) (g.done j q))
            (eq-or-lt_of_le {n = j} {m = k} (omega arith));
        rest = λ j q. get_or-set_other l k j v 0 (λ z. omega arith) ∙ g.rest j (omega arith);
      }

  pub revised_skip : P k (get_or old k 0) → Revised P n old (k + 1) l
  revised_skip p =
      record {
        long = g.long;
        done = λ j q. ⊎_elim
            (λ e. subst (λ i. P i (get_or l i 0)) (sym e) (subst (P k) (sym (g.rest k (omega arith))) p))
            (g.done j)
            (eq-or-lt_of_le {n = j} {m = k} (omega arith));
        rest = λ j q. g.rest j (omega arith);
      }
