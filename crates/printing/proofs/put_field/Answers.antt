use Rattle.std.proofs.Common.{◌≡◌, ℕ, ◌+◌, ◌-◌, ◌/◌, ◌^◌, slice_set, arith, ap, ◌∙◌, sym}
use Rattle.fields.proofs.Digits.{column}
use Rattle.printing.proofs.Columns.{last_put, put_next, put_all, left_next, column_digit, column_blank}
use Rattle.printing.proofs.put_field.Goals as goal
use Rattle.printing.proofs.put_field.Goals.{then-rest-ne0, else-rest-ne0, Joined-rest-ne0}

-- a column more, of the byte that belongs there
column_put : (c : Joined-rest-ne0) {b : ℕ} →
    c.if-rest-ne0.rest ≡ c.loop-k.rest / 10 → c.if-rest-ne0.out ≡ slice_set c.loop-k.out (5 - c.loop-k.k) b →
    b ≡ column c.loop-k.k c.loop-k.rest →
    (c.if-rest-ne0.rest ≡ c.args.n / 10 ^ (c.loop-k.k + 1))
    × (c.if-rest-ne0.out ≡ last_put c.args.n c.args.out.now (c.loop-k.k + 1))
column_put c {b} rest-is out-is byte-is =
    let z = c.args in
    let k = c.loop-k.k in
    let left = c.loop-k.invariant.0 in (
      rest-is ∙ ap (λ x. x / 10) left ∙ left_next z.n k,
      out-is ∙ ap (λ l. slice_set l (5 - k) b) c.loop-k.invariant.1
          ∙ put_next z.n z.out.now c.requires.0 k b c.loop-k-test.true (byte-is ∙ ap (column k) left),
    )

pub loop-k-preserved : goal.loop-k-preserved
loop-k-preserved c =
    let k = c.loop-k.k in
    let x = c.loop-k.rest in
    elim c.if-rest-ne0.branch [
      | then-rest-ne0 w ↦
          column_put c w.rest-is w.out-is (sym (column_digit k x (λ h. omega (arith, w.if-rest-ne0.either))))
      | else-rest-ne0 w ↦
          let none = w.if-rest-ne0.false.1 in
          column_put c (w.rest-is ∙ none ∙ sym (ap (λ y. y / 10) none)) w.out-is
          (sym (column_blank k x (omega (arith, w.if-rest-ne0.false)) none))
    ]

pub returns : goal.returns
returns c =
    c.loop-k.invariant.1 ∙ put_all c.args.n c.args.out.now c.requires.0 c.loop-k.k (omega arith) c.requires.1
