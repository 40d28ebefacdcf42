-- What questions 6, 7 and 8 ask of a table beside some bytes: that nothing is wrong anywhere (`malformed_nowhere`,
-- `large_nowhere`, `falls_nowhere`), which is what their tests find (`none_malformed`, `none_large`, `none_falls`).
-- Assumes that the empty bundle is worth 0.
use mathlib.Core.Path.{◌≡◌, sym, ap, ◌∙◌}
use mathlib.Core.Logic.{◌↔◌, inl, inr}
use mathlib.Core.List.{List}
use Prim.Native.Nat.{ℕ, zero, suc, ◌-◌, ◌^◌, ◌<◌}
use native.Mathlib.Omega.{arith}
use native.Mathlib.Decide.{ℕ_discrete, dec_le}
use lib.ListN.{get_or}
use Rattle.theory.proofs.Tests.{by_test, fails, Means}
use Rattle.fields.proofs.Canonical.{no_number}
use Rattle.numbers.proofs.Numbers.{pow_some}
use Rattle.sheet.specs.Sheets.{offset, Sheet, worth}
use Rattle.sheet.specs.Questions.{wrong, first_wrong}
use Rattle.sheet.specs.Claims.{questions, Malformed, TooLarge, Falls, Grows}
use Rattle.sheet.proofs.Lines.{none_wrong_lem, all_right, field_told, malformed_means, large_means, falls_means}

abbrev pub Nowhere : Sheet → (ℕ → ℕ → Type 0) → Type 0
Nowhere w T = (i c : ℕ) → i < w.buyers → c < 2 ^ w.lots → T i c → ⊥

module _ (b : List ℕ) (w : Sheet) where
  abbrev Asked : ℕ → Type 0
  Asked k = get_or (questions b w) k (Unit {0})

  pub malformed_nowhere : Asked 6 ↔ Nowhere w (λ i c. Malformed w i c b)
  malformed_nowhere =
      let last = 2 ^ w.lots - 1 in (
        λ q i c l g x. elim x [
          | inl (s, f) ↦ let (v, y) = q.0 i c l s in no_number (sym f ∙ y)
          | inr (s, none) ↦
              let e : c ≡ last = omega arith in
              none (ap (λ d. get_or b (offset w.lots i d) 0) e ∙ q.1 i l)
        ],
        λ none. (
          λ i c h g. elim (field_told b (offset w.lots i c))
              [ inl x ↦ x | inr f ↦ absurd (none i c h (omega arith) (inl (g, f))) ],
          λ i h.
              let some = pow_some w.lots in
              elim (ℕ_discrete (get_or b (offset w.lots i last) 0) 10)
              [ yes x ↦ x | no x ↦ absurd (none i last h (omega arith) (inr (omega arith, x))) ],
        ),
      )

  none_first : (k : ℕ) (T : ℕ → ℕ → Type 0) → ((i c : ℕ) → c < 2 ^ w.lots → Means (wrong k b w i c) (T i c)) →
      Asked k ↔ Nowhere w T → (first_wrong k b w ≡ 0) ↔ Asked k
  none_first k T means (to, back) = (
    λ e. back (λ i c h g x. fails ((means i c g).1 x) (none_wrong_lem k b w e i c h g)),
    λ q. all_right k b w (λ i c h g.
        by_test (wrong k b w i c) (λ t. absurd (to q i c h g ((means i c g).0 t))) (λ t. t)),
  )

  pub none_malformed : (first_wrong 6 b w ≡ 0) ↔ Asked 6
  none_malformed = none_first 6 _ (λ i c g. malformed_means b w i c g) malformed_nowhere

  module _ (free : (i : ℕ) → worth w i 0 ≡ 0) where
    pub large_nowhere : Asked 7 ↔ Nowhere w (TooLarge w)
    large_nowhere = (λ q i c l g (s, more). omega (arith, q i (suc c) l s), small)
      where
        small : Nowhere w (TooLarge w) → Asked 7
        small none i zero h g = omega (arith, free i)
        small none i (suc c) h g =
            elim (dec_le (worth w i (suc c)) 9999)
            [ yes l ↦ l | no l ↦ absurd (none i c h (omega arith) (g, omega arith)) ]

    -- a bundle of one lot is worth at least as much as the empty one, which question 8 need not ask
    pub growing : Asked 8 → Grows w
    growing q i s j h g l t =
        elim (ℕ_discrete s (2 ^ j)) [
          | yes e ↦
              let z : s - 2 ^ j ≡ 0 = omega arith in
              omega (arith, ap (worth w i) z, free i)
          | no e ↦ q i s j h g l t e
        ]

    pub falls_nowhere : Asked 8 ↔ Nowhere w (Falls w)
    falls_nowhere = (λ q i c l g (s, (j, m, has, more)). omega (arith, growing q i (suc c) j l s m has), grow)
      where
        grow : Nowhere w (Falls w) → Asked 8
        grow none i zero j h g l t _ = let z : 0 - 2 ^ j ≡ 0 = omega arith in omega (arith, ap (worth w i) z)
        grow none i (suc c) j h g l t _ =
            elim (dec_le (worth w i (suc c - 2 ^ j)) (worth w i (suc c)))
            [ yes d ↦ d | no d ↦ absurd (none i c h (omega arith) (g, (j, l, t, omega arith))) ]

    pub none_large : (first_wrong 7 b w ≡ 0) ↔ Asked 7
    none_large = none_first 7 _ (λ i c _. large_means b w i c) large_nowhere

    pub none_falls : (first_wrong 8 b w ≡ 0) ↔ Asked 8
    none_falls = none_first 8 _ (λ i c _. falls_means b w i c) falls_nowhere
