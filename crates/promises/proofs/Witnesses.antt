-- What meets the conditions of theorems (`witnesses`), by computing.
use mathlib.Core.Path.{◌≡◌, refl}
use mathlib.Core.Logic.{◌≢◌}
use mathlib.Core.Bool.{true}
use Prim.Native.Nat.{ℕ, zero, suc, ◌+◌, ◌-◌, ◌*◌, ◌≤◌, ◌<◌}
use native.Mathlib.Omega.{arith}
use native.Mathlib.Decide.{dec_lt}
use lib.ListN.{get_or, replicate, length-replicate, get_or-replicate, get_or-eq_default}
use Rattle.theory.specs.Sums.{Among}
use Rattle.sheet.specs.Sheets.{worths_in}
use Rattle.owners.specs.Owners.{member}
use Rattle.offers.specs.Offers.{lots_of, worth_of}
use Rattle.promises.specs.Witnesses.{example, other, zeros, unread, Witnesses}

highest : (k : ℕ) → get_or (replicate 96 65535) k 0 ≤ 65535
highest k =
    elim (dec_lt k 96) [
      | yes h ↦ rw (get_or-replicate {A = ℕ} 96 k 65535 0 h) (omega arith)
      | no h ↦
          let long = length-replicate {A = ℕ} 96 65535 in
          rw (get_or-eq_default (replicate {A = ℕ} 96 65535) 0 {n = k} (omega arith)) (omega arith)
    ]

agree : (i s : ℕ) → Among 2 1 i → 1 ≤ s → s < 4 → get_or zeros (16 * (i - 1) + s) 0 ≡ get_or unread (16 * (i - 1) + s) 0
agree zero s r some h = absurd (omega arith)
agree (suc zero) zero r some h = absurd (omega arith)
agree (suc zero) (suc zero) r some h = refl
agree (suc zero) (suc (suc zero)) r some h = refl
agree (suc zero) (suc (suc (suc zero))) r some h = refl
agree (suc zero) (suc (suc (suc (suc s)))) r some h = absurd (omega arith)
agree (suc (suc zero)) zero r some h = absurd (omega arith)
agree (suc (suc zero)) (suc zero) r some h = refl
agree (suc (suc zero)) (suc (suc zero)) r some h = refl
agree (suc (suc zero)) (suc (suc (suc zero))) r some h = refl
agree (suc (suc zero)) (suc (suc (suc (suc s)))) r some h = absurd (omega arith)
agree (suc (suc (suc i))) s r some h = absurd (omega arith)

others : (k s : ℕ) → Among 2 1 k → k ≢ 1 → s < 4 → worth_of (lots_of example) k s ≡ worth_of (lots_of other) k s
unfolding worths_in
others zero s r not h = absurd (omega arith)
others (suc zero) s r not h = absurd (not refl)
others (suc (suc zero)) zero r not h = refl
others (suc (suc zero)) (suc zero) r not h = refl
others (suc (suc zero)) (suc (suc zero)) r not h = refl
others (suc (suc zero)) (suc (suc (suc zero))) r not h = refl
others (suc (suc zero)) (suc (suc (suc (suc s)))) r not h = absurd (omega arith)
others (suc (suc (suc k))) s r not h = absurd (omega arith)

inside : (i : ℕ) → Among 2 1 i → member 1 i ≡ true → member 3 i ≡ true
inside zero r e = absurd (omega arith)
inside (suc zero) r e = refl
inside (suc (suc zero)) r e = refl
inside (suc (suc (suc i))) r e = absurd (omega arith)

pub witnesses : Witnesses
unfolding worths_in
witnesses =
    record {
      highest = highest;
      agree = agree;
      elsewhere = (refl, refl, refl);
      alike = record { buyers = refl; lots = refl; others = others };
      differ = λ e. let two : ◌≡◌ {A = ℕ} 2 1 = e in omega arith;
      beneath = record { inside = inside; short = (2, omega arith, refl, refl) };
      empty_set = refl;
    }
