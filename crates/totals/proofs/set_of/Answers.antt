use Rattle.std.proofs.Common.{◌≡◌, Bool, ℕ, suc, true, false, not, eqb, refl, add-one, arith}
use borrow.Author.Tests.{eq-eqb, ne_eqb}
use Rattle.theory.specs.Coalitions.{holder}
use Rattle.demand.proofs.Loops.{gathered_none, gathered_in, gathered_out, gathered_all}
use Rattle.lists.specs.Words.{digit, word_market}
use Rattle.totals.proofs.Digits.{holders_are, holders_small}
use Rattle.totals.proofs.set_of.Goals as goal
use Rattle.totals.proofs.set_of.Goals.{then-bundle-ne0, else-bundle-ne0}

-- a buyer that owns bundle d
owned : (d e : ℕ) → d ≡ e → (d ≡ 0 → ⊥) → true ≡ not (eqb e 0)
owned d e same some = rw (← same, ne_eqb d 0 some) refl

free : (d e : ℕ) → d ≡ e → d ≡ 0 → false ≡ not (eqb e 0)
free d e same none = rw (← same, eq-eqb d 0 none) refl

pub loop-i-init : goal.loop-i-init
loop-i-init c =
    let none = gathered_none (λ j. holder (word_market 1 c.args.buyers) c.args.word (suc j)) c.args.buyers in
    rw (holders_are c.args.buyers c.args.word) at none

pub loop-i-preserved : goal.loop-i-preserved
loop-i-preserved c =
    let z = c.args in
    let l = c.loop-i in
    let owns : ℕ → Bool = λ j. holder (word_market 1 z.buyers) z.word (suc j) in
    let next = suc l.i in
    let bundle : c.digit_of-bundle.result ≡ digit next z.word =
    rw (← add-one l.i) c.digit_of-bundle.ensures.is in
    elim c.if-bundle-ne0.branch [
      | then-bundle-ne0 w ↦
          gathered_in owns z.buyers l.i l.set _ l.invariant c.loop-i-test.true true
          (owned _ _ bundle w.if-bundle-ne0.true) _ refl w.power-set.result w.power-set.ensures.is w.set-is
      | else-bundle-ne0 w ↦
          gathered_out owns z.buyers l.i l.set _ l.invariant c.loop-i-test.true false
          (free _ _ bundle w.if-bundle-ne0.false) _ refl w.set-is
    ]

pub returns : goal.returns
returns c =
    let z = c.args in
    let l = c.loop-i in
    let all = gathered_all (λ j. holder (word_market 1 z.buyers) z.word (suc j)) z.buyers l.i l.set _ l.invariant
    (omega arith) in
    record { is = all; most = omega (arith, all, holders_small z.buyers z.word c.requires) }
