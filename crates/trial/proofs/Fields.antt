-- Bytes that are four numbers in six columns each, the first of them a sheet's number: what `is_asked` finds on each
-- way through (`not_long`, `not_good`, `all_good`); that these bytes and no others are asked, and what their numbers
-- are (`typed_asked`, `asked_typed`).
use mathlib.Core.Path.{◌≡◌, refl, sym, ap, ◌∙◌}
use mathlib.Core.Logic.{◌≢◌}
use mathlib.Core.Bool.{Bool, true, false}
use mathlib.Core.List.{List, [], ◌∷◌}
use Rattle.std.specs.Prelude.{Result, Ok, Err}
use Prim.Native.Nat.{ℕ, zero, suc, ◌*◌, ◌≤◌, ◌<◌}
use native.Mathlib.Omega.{arith}
use lib.Dec.{leb}
use lib.ListN.{length, take, drop, get_or}
use borrow.Author.Tests.{eq-eqb, ne_eqb}
use Rattle.theory.specs.Sums.{Among}
use Rattle.theory.specs.Tests.{every}
use Rattle.theory.proofs.Tests.{Means, fails, itself, and_means, eqb_means, leb_means, every_means}
use Rattle.fields.specs.Fields.{field_at, good, number_of, number_at, columns}
use Rattle.fields.proofs.Canonical.{field_canonical}
use Rattle.fields.proofs.Lines.{fields_length}
use Rattle.fields.proofs.Listed.{listed-read, fields_listed}
use Rattle.trial.specs.Answers.{trial_asked}
use Rattle.trial.specs.Claims.{Typed}

module _ (b : List ℕ) where
  abbrev pub good_fields : Bool
  good_fields = every 4 0 (λ k. good (field_at (6 * k) b))

  pub not_long : length b ≢ 24 → false ≡ trial_asked b
  unfolding trial_asked
  not_long h = rw (ne_eqb (length b) 24 h)

  module _ (long : length b ≡ 24) where
    pub not_good : false ≡ good_fields → false ≡ trial_asked b
    unfolding trial_asked
    not_good h = rw (eq-eqb (length b) 24 long, ← h)

    pub all_good : true ≡ good_fields → (v : ℕ) → v ≡ number_at 0 b → leb v 65535 ≡ trial_asked b
    unfolding trial_asked
    all_good h v e = rw (eq-eqb (length b) 24 long, ← h, e)

  -- what it is to be asked
  pub asked_means : Means (trial_asked b)
      ((length b ≡ 24) × (((k : ℕ) → Among 4 0 k → good (field_at (6 * k) b) ≡ true) × (number_at 0 b ≤ 65535)))
  unfolding trial_asked
  asked_means =
      and_means (eqb_means (length b) 24)
      (and_means (every_means 4 0 (λ k _. itself (good (field_at (6 * k) b)))) (leb_means (number_at 0 b) 65535))

good-number : (f : Result ℕ ℕ) → good f ≡ true → f ≡ Ok (number_of f)
good-number (Ok v) e = refl
good-number (Err at) e = fails e refl

number_is : (f : Result ℕ ℕ) (v : ℕ) → f ≡ Ok v → (good f ≡ true) × (number_of f ≡ v)
number_is f v e = (ap good e, ap number_of e)

-- the numbers that the bytes have
pub record Numbers (b : List ℕ) (N m n top : ℕ) : Type 0 where
  pub asked : trial_asked b ≡ true
  pub first : N ≡ number_at 0 b
  pub second : m ≡ number_at 6 b
  pub third : n ≡ number_at 12 b
  pub fourth : top ≡ number_at 18 b

pub typed_asked : (b : List ℕ) (N m n top : ℕ) → Typed b N m n top → Numbers b N m n top
typed_asked b N m n top t =
    let l = N ∷ m ∷ n ∷ top ∷ [] in
    let read : (k : ℕ) → k < 4 → (good (field_at (6 * k) b) ≡ true) × (number_at (6 * k) b ≡ get_or l k 0) =
    λ k h. number_is (field_at (6 * k) b) (get_or l k 0)
    (ap (field_at (6 * k)) t.bytes ∙ listed-read l k (omega arith) (small k h)) in
    record {
      asked = (asked_means b).1 (
        ap length t.bytes ∙ fields_length l,
        (λ k r. (read k (omega arith)).0, omega (arith, (read 0 (omega arith)).1, t.number)),
      );
      first = sym (read 0 (omega arith)).1;
      second = sym (read 1 (omega arith)).1;
      third = sym (read 2 (omega arith)).1;
      fourth = sym (read 3 (omega arith)).1;
    }
  where
    small : (k : ℕ) → k < 4 → get_or (N ∷ m ∷ n ∷ top ∷ []) k 0 ≤ 999999
    small zero h = omega (arith, t.number)
    small (suc zero) h = t.small.0
    small (suc (suc zero)) h = t.small.1
    small (suc (suc (suc zero))) h = t.small.2
    small (suc (suc (suc (suc k)))) h = absurd (omega arith)

pub asked_typed : (b : List ℕ) → trial_asked b ≡ true →
    Typed b (number_at 0 b) (number_at 6 b) (number_at 12 b) (number_at 18 b)
asked_typed b e =
    let (long, (each, number)) = (asked_means b).0 e in
    let at : ℕ → ℕ = λ k. number_at (6 * k) b in
    let read : (k : ℕ) → k < 4 → (at k ≤ 999999) × (take 6 (drop (6 * k) b) ≡ columns 6 (at k)) =
    λ k h.
    let (_, small, is) = (field_canonical b (6 * k) (number_at (6 * k) b)).0
    (good-number (field_at (6 * k) b) (each k (omega arith))) in
    (small, is) in
    record {
      bytes = fields_listed 4 b (λ k. number_at (6 * k) b) (omega arith) (λ k h. (read k h).1);
      number = number;
      small = ((read 1 (omega arith)).0, (read 2 (omega arith)).0, (read 3 (omega arith)).0);
    }
