-- Rounds over any choice and step, while they go on (`Going`) and when they have ended (`Done`). Offers the begin
-- (`begun`), one round more (`goes_on`), the two ends (`settles`, `runs_out`), and what one round answers
-- (`round_none`, `round-some`).
use mathlib.Core.Path.{◌≡◌, refl, sym, ap, subst, ◌∙◌}
use mathlib.Core.Bool.{Bool, true, false}
use mathlib.Core.List.{List, [], ◌∷◌, ◌++◌, append_assoc, append-nil}
use Prim.Native.Nat.{ℕ, suc, ◌+◌, ◌-◌, ◌≤◌, ◌<◌}
use native.Mathlib.Nat.{add-zero, sub-zero}
use native.Mathlib.Omega.{arith}
use lib.Dec.{eqb}
use lib.ListN.{length, take, drop, get_or, set, length-append, length-take, length-drop, length-set}
use borrow.Rule.Slice.PartMut.{put_mid, set_mid_at, put_same}
use borrow.Author.Tests.{eq-eqb, ne_eqb, eqb-true, eqb-false}
use Rattle.theory.proofs.Over.{over_more}
use Rattle.theory.specs.Rounds.{on, choices, after}
use Rattle.theory.proofs.Tests.{by_test}
use Rattle.owners.specs.Singles.{AtMost}
use Rattle.theory.specs.Lists.{over}
use Rattle.rounds.specs.Rounds.{Round}

tail_set : (l last : List ℕ) (at b : ℕ) → at < length l → last ≡ set (take (length l - at) (drop at l)) 0 b →
    put_mid at (length l - at) l last ≡ set l at b
tail_set l last at b h e =
    rw e (set_mid_at at (length l - at) 0 l b (simp (length-take, length-drop) (omega arith))
    ∙ ap (λ (n : ℕ). set l n b) (add-zero at))

tail_same : (l last : List ℕ) (at : ℕ) → last ≡ take (length l - at) (drop at l) → put_mid at (length l - at) l last ≡ l
tail_same l last at e = rw e (put_same at (length l - at) l)

-- what rounds have done that ended: n of them, with the prices ps and the record l
pub record Done (choose : List ℕ → ℕ) (step : ℕ → List ℕ → List ℕ) (limit : ℕ) (start o ps l : List ℕ)
    (n : ℕ) : Type 0 where
  pub prices : ps ≡ after step start (choices choose step limit start)
  pub rounds : n ≡ length (choices choose step limit start)
  pub bytes : l ≡ over (choices choose step limit start) o

-- and rounds that go on: n of them so far, with the prices ps, at first at most c; `sets` are theirs, and the record
-- was o and is l
pub record Going (choose : List ℕ → ℕ) (step : ℕ → List ℕ → List ℕ) (limit c : ℕ) (start o ps l : List ℕ)
    (n : ℕ) : Type 0 where
  pub sets : List ℕ
  pub count : length sets ≡ n
  pub few : n ≤ limit
  pub same : length l ≡ length o
  pub bytes : l ≡ over sets o
  pub rest : sets ++ choices choose step (limit - n) ps ≡ choices choose step limit start
  pub last : after step ps (choices choose step (limit - n) ps) ≡ after step start (choices choose step limit start)
  pub small : AtMost (c + n) ps

pub begun : {choose : List ℕ → ℕ} {step : ℕ → List ℕ → List ℕ} {limit c : ℕ} {start o : List ℕ} → AtMost c start →
    Going choose step limit c start o start o 0
begun small =
    record {
      sets = [];
      count = refl;
      few = omega arith;
      same = refl;
      bytes = refl;
      rest = rw sub-zero;
      last = rw sub-zero;
      small = λ k. omega (arith, small k);
    }

module _
    {choose : List ℕ → ℕ} {step : ℕ → List ℕ → List ℕ} {limit c : ℕ} {start o ps l : List ℕ} {n : ℕ}
    (g : Going choose step limit c start o ps l n) where
  -- no choice is left
  ends : choices choose step (limit - n) ps ≡ [] → (ps' l' : List ℕ) → ps' ≡ ps → l' ≡ l →
      Done choose step limit start o ps' l' n
  ends z ps' l' ep el =
      let all : g.sets ≡ choices choose step limit start = sym (append-nil g.sets) ∙ (rw z at g.rest) in
      record {
        prices = ep ∙ (rw z at g.last);
        rounds = sym g.count ∙ ap length all;
        bytes = el ∙ g.bytes ∙ ap (λ s. over s o) all;
      }

  -- the limit is reached
  pub runs_out : limit ≤ n → Done choose step limit start o ps l limit
  runs_out h =
      let k : limit - n ≡ 0 = omega arith in
      let all : n ≡ limit = omega (arith, g.few) in
      subst (Done choose step limit start o ps l) all (ends (ap (λ k. choices choose step k ps) k) ps l refl refl)

  -- one round more, that was lent the record from n on and left `end` there
  module _ (h : n < limit) (f : limit ≤ length o) {ps' end : List ℕ} {settled : Bool}
      (d : Round choose step ps (take (length l - n) (drop n l)) ps' end settled) where
    left : limit - n ≡ suc (limit - (n + 1))
    left = omega arith

    pub goes_on : ((x c : ℕ) (ps : List ℕ) → AtMost c ps → AtMost (c + 1) (step x ps)) → settled ≡ false →
        Going choose step limit c start o ps' (put_mid n (length l - n) l end) (n + 1)
    goes_on rises t =
        let v : eqb (choose ps) 0 ≡ false = sym d.ends ∙ t in
        let x : choose ps ≡ suc (choose ps - 1) = omega (arith, eqb-false (choose ps) 0 v) in
        let p : ps' ≡ step (choose ps - 1) ps = rw v at d.prices in
        let e : put_mid n (length l - n) l end ≡ set l n (choose ps - 1) =
        tail_set l end n (choose ps - 1) (omega (arith, g.same)) (rw v at d.bytes) in
        let more : choices choose step (limit - n) ps
        ≡ (choose ps - 1) ∷ choices choose step (limit - (n + 1)) (step (choose ps - 1) ps) =
        ap (λ k. choices choose step k ps) left
        ∙ ap (λ y. on y [] (λ x. x ∷ choices choose step (limit - (n + 1)) (step x ps))) x in
        record {
          sets = g.sets ++ ((choose ps - 1) ∷ []);
          count = rw (length-append, g.count);
          few = omega arith;
          same = ap length e ∙ length-set l n (choose ps - 1) ∙ g.same;
          bytes = rw (e, g.bytes) (over_more g.sets o (choose ps - 1) n g.count (omega arith));
          rest = rw (p, append_assoc, ← more) g.rest;
          last = rw p (sym (ap (after step ps) more) ∙ g.last);
          small = λ k. omega (arith, ap (λ l. get_or l k 0) p, rises (choose ps - 1) (c + n) ps g.small k);
        }

    pub settles : settled ≡ true → Done choose step limit start o ps' (put_mid n (length l - n) l end) n
    settles t =
        let v : eqb (choose ps) 0 ≡ true = sym d.ends ∙ t in
        let none : choices choose step (limit - n) ps ≡ [] =
        ap (λ k. choices choose step k ps) left
        ∙ ap (λ y. on y [] (λ x. x ∷ choices choose step (limit - (n + 1)) (step x ps))) (eqb-true (choose ps) 0 v) in
        ends none ps' (put_mid n (length l - n) l end) (rw v at d.prices) (tail_same l end n (rw v at d.bytes))

    -- the record keeps its length
    pub kept : length (put_mid n (length l - n) l end) ≡ length o
    kept =
        by_test (eqb (choose ps) 0)
        (λ v. ap length (tail_same l end n (rw v at d.bytes)) ∙ g.same)
        (λ v. ap length (tail_set l end n (choose ps - 1) (omega (arith, g.same)) (rw v at d.bytes))
        ∙ length-set l n (choose ps - 1) ∙ g.same)

-- a round that finds no set, and one that finds one
module _ (choose : List ℕ → ℕ) (step : ℕ → List ℕ → List ℕ) (ps o : List ℕ) where
  pub round_none : 0 ≡ choose ps → Round choose step ps o ps o true
  round_none e =
      let v : eqb (choose ps) 0 ≡ true = eq-eqb (choose ps) 0 (sym e) in
      record { prices = rw v; bytes = rw v; ends = sym v }

  pub round-some : (x : ℕ) → suc x ≡ choose ps → (qs o' : List ℕ) → o' ≡ set o 0 x → qs ≡ step x ps →
      Round choose step ps o qs o' false
  round-some x e qs o' w q =
      let v : eqb (choose ps) 0 ≡ false = ne_eqb (choose ps) 0 (λ z. omega arith) in
      let one : choose ps - 1 ≡ x = omega arith in
      record { prices = rw (v, one) q; bytes = rw (v, one) w; ends = sym v }
