-- The economies of owner lists, of all and of all but one: what holds of both kinds holds of each (`economies_all`),
-- and each has the lists that nobody absent has a part in (`economies_part`).
use mathlib.Core.Path.{refl, sym, ap, subst}
use mathlib.Core.Logic.{inl, inr}
use mathlib.Core.Bool.{not}
use mathlib.Core.List.Memᴰ
use mathlib.Core.List.Memᴰ.{head as here}
use mathlib.Core.List.Memᴰ.{tail as there}
use mathlib.Core.List.{List}
use Prim.Native.Nat.{ℕ, zero, suc, ◌≤◌}
use native.Mathlib.Omega.{arith}
use native.Mathlib.Decide.{ℕ_discrete}
use borrow.Author.Tests.{eq-eqb}
use Rattle.theory.specs.Sums.{Among}
use Rattle.theory.specs.Lists.{◌∈◌, keep}
use Rattle.theory.specs.Auction.{Economy, whole, lacking}
use Rattle.theory.specs.Coalitions.{Part}
use Rattle.theory.proofs.Lists.{keep_in, keep_from}
use Rattle.owners.specs.Owners.{market, lacks, lacking_from, economies}
use Rattle.owners.proofs.Owners.{bundle_none}

module _ (m : ℕ) (al : List (List ℕ)) where
  lackings_all : (P : Economy (List ℕ) → Type 0) (k s : ℕ) →
      ((i : ℕ) → Among k s i → P (lacking i (keep (lacks i) al))) →
      (e : Economy (List ℕ)) → e ∈ lacking_from k s al → P e
  lackings_all P zero s each e h = absurd (Memᴰ.not-nil h)
  lackings_all P (suc k) s each e h =
      elim (Memᴰ.cases_cons h) [
        | inl q ↦ subst P (sym q) (each s (omega arith))
        | inr l ↦ lackings_all P k (suc s) (λ i r. each i (omega arith)) e l
      ]

  -- what holds of the economy of all, and of each without one, holds of each
  pub economies_all : (P : Economy (List ℕ) → Type 0) → P (whole al) →
      ((i : ℕ) → Among m 1 i → P (lacking i (keep (lacks i) al))) →
      (e : Economy (List ℕ)) → e ∈ economies m al → P e
  economies_all P main each e h =
      elim (Memᴰ.cases_cons h) [ inl q ↦ subst P (sym q) main | inr l ↦ lackings_all P m 1 each e l ]

  -- the economies' allocations are those of all that nobody absent has a part in
  pub economies_part : (share : ℕ → ℕ) → ((j : ℕ) → 1 ≤ share j) → (e : Economy (List ℕ)) → e ∈ economies m al →
      Part (market m share) al e
  economies_part share some =
      economies_all (Part (market m share) al) (record { fewer = λ a h. h; closed = λ a h _. h })
      (λ i r. record {
        fewer = λ a h. (keep_from (lacks i) al h).0;
        closed = λ a h held. keep_in (lacks i) h (bundle_none share some 0 i a (held i r (ap not (eq-eqb i i refl))));
      })

  pub whole_in : whole al ∈ economies m al
  whole_in = here refl

  lackings_in : (k s i : ℕ) → Among k s i → lacking i (keep (lacks i) al) ∈ lacking_from k s al
  lackings_in zero s i r = absurd (omega arith)
  lackings_in (suc k) s i r =
      elim (ℕ_discrete i s) [
        | yes e ↦ here (ap (λ j. lacking j (keep (lacks j) al)) e)
        | no q ↦ there (lackings_in k (suc s) i (omega arith))
      ]

  pub lacking_in : (i : ℕ) → Among m 1 i → lacking i (keep (lacks i) al) ∈ economies m al
  lacking_in i r = there (lackings_in m 1 i r)
