-- The match finds whether a byte breaks rule 2.2 (`told`); the loop's lemmas say what one column more does.
use Rattle.std.proofs.Common.{arith, sym, ◌∙◌, ◌≡◌, ℕ, ◌+◌, ◌<◌, ltb, take, drop, get_or, true, false}
use Rattle.std.proofs.Common.{is_some, unwrap_or}
use Rattle.fields.specs.Fields.{breaks_rule}
use Rattle.fields.proofs.Scan.{class_low, class_high, few_digits}
use Rattle.fields.proofs.Scan.{rule_blank, rule_zero, rule_digit, rule_foreign}
use Rattle.fields.proofs.Columns.{blank_more, digit_more, running_broken, running_whole}
use Rattle.fields.proofs.read_columns.Goals as goal
use Rattle.fields.proofs.read_columns.Goals.{Joined-b, then-b-ne32, else-b-ne32}
use Rattle.fields.proofs.read_columns.Goals.{in-32, in-48+then-is_none, in-48+else-is_none, in-49-to-57}
use Rattle.fields.proofs.read_columns.Goals.{in_default, in_default-2}

told : (j : Joined-b) →
    let f = is_some j.loop-k.number in
    let a = ltb (j.loop-k.k + 1) 6 in
    let b = get_or j.args.sheet.now (j.args.at + j.loop-k.k) 0 in
    j.match-b.breaks ≡ breaks_rule f a b
told j =
    let f = is_some j.loop-k.number in
    let a = ltb (j.loop-k.k + 1) 6 in
    let b : ℕ = get_or j.args.sheet.now (j.args.at + j.loop-k.k) 0 in
    elim j.match-b.branch [
      | in-32 w ↦ w.breaks-is ∙ w.is_some-breaks.ensures ∙ sym (rule_blank f a b w.in-32.is)
      | in-48+then-is_none w ↦
          w.breaks-is ∙ sym (rule_zero f a b true w.in-48.is (rw (w.is_none.ensures, w.if-is_none.true)))
      | in-48+else-is_none w ↦
          w.breaks-is ∙ w.if-is_none.false
          ∙ sym (rule_zero f a b false w.in-48.is (rw (w.is_none.ensures, w.if-is_none.false)))
      | in-49-to-57 w ↦ w.breaks-is ∙ sym (rule_digit f a b (omega arith) (omega arith))
      | in_default w ↦ w.breaks-is ∙ sym (rule_foreign f a b (class_low b (omega arith) (λ z. omega arith)))
      | in_default-2 w ↦ w.breaks-is ∙ sym (rule_foreign f a b (class_high b (omega arith)))
    ]

pub returns-then-breaks : goal.returns-then-breaks
returns-then-breaks c =
    let short : c.loop-k.k < 6 = omega arith in
    let e = sym (told (goal.at.returns-then-breaks c).Joined-b) ∙ c.if-breaks.true in (
      running_broken c.args.sheet.now c.args.at c.loop-k.k _ _ c.requires.0 short c.loop-k.invariant c.args.count
          c.loop-k-test.true e,
      omega arith,
    )

pub loop-k-preserved : goal.loop-k-preserved
loop-k-preserved c =
    let s = c.args.sheet.now in
    let at = c.args.at in
    let k = c.loop-k.k in
    let short : k < 6 = omega arith in
    let e = sym (told (goal.at.loop-k-preserved c).Joined-b) ∙ c.if-breaks.false in
    elim c.if-b-ne32.branch [
      | then-b-ne32 w ↦
          rw (w.number-is, w.from-digit.ensures, w.unwrap_or.ensures)
          (digit_more s at k _ _ c.requires.0 short c.loop-k.invariant e w.if-b-ne32.true)
      | else-b-ne32 w ↦
          rw w.number-is (blank_more s at k _ _ c.requires.0 short c.loop-k.invariant e w.if-b-ne32.false)
    ]

pub returns : goal.returns
returns c =
    let n = c.args.count in
    let six = take 6 (drop c.args.at c.args.sheet.now) in
    let h : c.loop-k.k ≡ n = omega arith in
    let x = rw h at c.loop-k.invariant in
    let small = few_digits n 6 (unwrap_or c.loop-k.number 0) c.requires.1 x.small in
    (running_whole c.args.at six n c.loop-k.number x, omega (arith, small))
