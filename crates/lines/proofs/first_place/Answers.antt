use Rattle.std.proofs.Common.{arith, sym, ◌≡◌, ℕ, ◌*◌, ◌/◌, ◌%◌, ◌^◌, ◌<◌, ◌≤◌, true, false}
use Rattle.theory.specs.Tests.{least}
use Rattle.theory.proofs.Loops.{least_passed, least_here}
use Rattle.numbers.proofs.Numbers.{line_below, place_below, pow_some}
use Rattle.lines.proofs.Asking.{place_tested, place_found}
use Rattle.lines.proofs.first_place.Invariants.{at_place}
use Rattle.lines.proofs.first_place.Goals as goal

-- the place counted k is in a line of the sheet, of which there are at most six, and one of the line's places
place_in : (m n z k : ℕ) → m ≤ 6 → z ≡ 2 ^ n → z ≤ 16 → k < m * z → (k / z < 6) × (k % z < 16) × (k < m * 2 ^ n)
place_in m n z k few e most h =
    let some : 1 ≤ z = omega (arith, pow_some n) in
    let line = line_below k m z some h in
    let place = place_below k z some in
    (omega arith, omega arith, rw e at h)

pub returns-then-test : goal.returns-then-test
returns-then-test g c t told =
    let m = c.args.size.buyers in
    let n = c.args.size.lots in
    let k = c.loop-k.k in
    let z = c.bundles-places.result in
    let z_is = c.bundles-places.ensures.is in
    let place = place_in m n z k c.args.size.small.0 z_is c.bundles-places.ensures.most c.loop-k-test.true in
    place_found n z k c.offset_of.result (least (m * 2 ^ n) 0 (at_place n t)) z_is c.offset_of.ensures.is
    (least_here (at_place n t) (m * 2 ^ n) k _ place.2 (c.loop-k.invariant t told)
    (sym (place_tested n z k t true z_is (told (k / z) (k % z) true place.0 place.1 c.if-test.ensures))))

pub loop-k-preserved : goal.loop-k-preserved
loop-k-preserved g c t told =
    let m = c.args.size.buyers in
    let n = c.args.size.lots in
    let k = c.loop-k.k in
    let z = c.bundles-places.result in
    let z_is = c.bundles-places.ensures.is in
    let place = place_in m n z k c.args.size.small.0 z_is c.bundles-places.ensures.most c.loop-k-test.true in
    least_passed (at_place n t) (m * 2 ^ n) k _ place.2 (c.loop-k.invariant t told)
    (sym (place_tested n z k t false z_is (told (k / z) (k % z) false place.0 place.1 c.if-test.ensures)))
