-- A sheet in which a table of six-column numbers is written is read as that table (`written_read`), and gets a "yes" to
-- questions 1 to 6 (`written_asked`); with worths that grow it is accepted (`written_accepted`). One with bytes missing
-- at its end is refused (`prefix_refused`). `sheets_all` has all the theorems about sheets.
use mathlib.Core.Path.{◌≡◌, refl, sym, ap, subst, ◌∙◌}
use mathlib.Core.Logic.{◌≢◌}
use mathlib.Core.List.{List, ◌++◌}
use Prim.Native.Nat.{ℕ, zero, suc, ◌+◌, ◌-◌, ◌*◌, ◌/◌, ◌%◌, ◌^◌, ◌≤◌, ◌<◌}
use native.Mathlib.Nat.{suc-mul, mul-le-mul_right}
use native.Mathlib.Omega.{arith}
use native.Mathlib.Decide.{dec_lt}
use lib.ListN.{length, take, drop, get_or, length-append}
use Rattle.theory.proofs.Loops.{filled_all}
use Rattle.std.specs.Prelude.{Ok}
use Rattle.fields.specs.Fields.{field_at, columns, number_of}
use Rattle.fields.proofs.Canonical.{field_canonical}
use Rattle.sheet.specs.Sheets.{line_length, offset, Sheet, as_sheet, sheet_of, worth, worth_in, worth_place, worths_in}
use Rattle.sheet.specs.Sheets.{bytes_of}
use Rattle.sheet.specs.Questions.{sheet_fault}
use Rattle.sheet.specs.Claims.{questions, Question, Shape, Grows, Sheets}
use Rattle.sheet.proofs.Places.{cell_empty, cell_nobody, cell_nothing, cell_there}
use Rattle.sheet.proofs.Valued.{Bounded}
use Rattle.sheet.proofs.Faults.{first_no, all_yes}
use Rattle.sheet.proofs.Long.{field_front, long_refused, long_alike}
use Rattle.sheet.proofs.Writing.{Written, bytes_written, written_same}
use Rattle.sheet.proofs.Theorems.{refusal_range, place_zero, place_inside, place_least, accepted_shape}
use Rattle.sheet.proofs.Theorems.{accepted_monotone, accepted_written}

module _ (b : List ℕ) (w : Sheet) (buyers : (1 ≤ w.buyers) × (w.buyers ≤ 6)) (lots : (1 ≤ w.lots) × (w.lots ≤ 4))
    (known : Bounded w 999999) (written : Written b w) where
  abbrev m : ℕ
  m = w.buyers

  abbrev n : ℕ
  n = w.lots

  field_read_lem : (at v : ℕ) → at + 6 ≤ length b → v ≤ 999999 → take 6 (drop at b) ≡ columns 6 v →
      field_at at b ≡ Ok v
  field_read_lem at v room small e = (field_canonical b at v).1 (room, small, e)

  buyers_read : field_at 0 b ≡ Ok m
  buyers_read = field_read_lem 0 m (omega (arith, written.long)) (omega (arith, buyers)) written.buyers

  lots_read : field_at 6 b ≡ Ok n
  lots_read = field_read_lem 6 n (omega (arith, written.long)) (omega (arith, lots)) written.lots

  worth-read : (i c : ℕ) → i < m → suc c < 2 ^ n → field_at (offset n i c) b ≡ Ok (worth w i (suc c))
  worth-read i c h g =
      field_read_lem (offset n i c) (worth w i (suc c))
      (omega (arith, written.long, suc-mul i (line_length n), mul-le-mul_right {m = suc i} {n = m} (line_length n) h))
      (known.small (16 * i + suc c)) (written.worths i c h g)

  place_same : (i s : ℕ) → s < 16 → worth w i s ≡ worth_place m n b i s
  place_same i s l =
      elim (dec_lt i m) [
        | no h ↦ known.nobody i s l (omega arith) ∙ cell_nobody m n (worth_in n b) i s (omega arith)
        | yes h ↦
            elim (dec_lt s (2 ^ n)) [
              | no g ↦ known.nothing i s l (omega arith) ∙ cell_nothing m n (worth_in n b) i s (omega arith)
              | yes g ↦ present i s h g
            ]
      ]
    where
      present : (i s : ℕ) → i < m → s < 2 ^ n → worth w i s ≡ worth_place m n b i s
      present i zero h g = known.empty i ∙ cell_empty m n (worth_in n b) i 0 (λ _. refl) refl
      present i (suc c) h g = sym (ap number_of (worth-read i c h g)) ∙ cell_there m n (worth_in n b) i (suc c) h g

  worths_same : worths_in m n b ≡ w.worths
  unfolding worths_in
  worths_same =
      sym
      (filled_all (λ k. worth_place m n b (k / 16) (k % 16)) 96 96 w.worths (omega arith)
      (record {
        long = known.long;
        done =
            λ k h. let whole : 16 * (k / 16) + k % 16 ≡ k = omega arith in
            rw whole at (place_same (k / 16) (k % 16) (omega arith));
      }))

  pub written_read : sheet_of b ≡ w
  written_read = rw (ap number_of buyers_read, ap number_of lots_read) (ap (as_sheet m n) worths_same)

  -- a question of the table is one of the bytes
  of_bytes : (k : ℕ) → get_or (questions b w) k (Unit {0}) → Question b k
  of_bytes k = subst (λ x. get_or (questions b x) k (Unit {0})) (sym written_read)

  pub written_asked : (k : ℕ) → k < 7 → Question b k
  written_asked k h = of_bytes k (told k h)
    where
      told : (k : ℕ) → k < 7 → get_or (questions b w) k (Unit {0})
      told zero h = tt
      told (suc zero) h = omega (arith, written.long)
      told (suc (suc zero)) h = ((m, buyers_read), (n, lots_read), written.head_end)
      told (suc (suc (suc zero))) h = buyers
      told (suc (suc (suc (suc zero)))) h = lots
      told (suc (suc (suc (suc (suc zero))))) h = written.long
      told (suc (suc (suc (suc (suc (suc zero)))))) h =
          (λ i c h g. (worth w i (suc c), worth-read i c h g), written.ends)
      told (suc (suc (suc (suc (suc (suc (suc k))))))) h = absurd (omega arith)

pub written_accepted : (b : List ℕ) (w : Sheet) → Shape w → Written b w → Grows w →
    ((sheet_fault b).number ≡ 0) × (sheet_of b ≡ w)
written_accepted b w shape written grows = ((all_yes b).1 told, same)
  where
    buyers : (1 ≤ w.buyers) × (w.buyers ≤ 6)
    buyers = (shape.some_buyers, shape.few_buyers)

    lots : (1 ≤ w.lots) × (w.lots ≤ 4)
    lots = (shape.some_lots, shape.few_lots)

    known : Bounded w 999999
    known =
        record {
          long = shape.long;
          small = λ k. omega (arith, shape.small k);
          empty = shape.empty;
          nobody = shape.nobody;
          nothing = shape.nothing;
        }

    same : sheet_of b ≡ w
    same = written_read b w buyers lots known written

    told : (k : ℕ) → Question b k
    told k =
        elim (dec_lt k 7) [
          | yes h ↦ written_asked b w buyers lots known written k h
          | no h ↦ let e : suc (suc (suc (suc (suc (suc (suc (k - 7))))))) ≡ k = omega arith in rw e at (later (k - 7))
        ]
      where
        later : (j : ℕ) → Question b (suc (suc (suc (suc (suc (suc (suc j)))))))
        later zero = of_bytes b w buyers lots known written 7 (λ i s _ _. shape.small (16 * i + s))
        later (suc zero) = of_bytes b w buyers lots known written 8 (λ i s j h g l t _. grows i s j h g l t)
        later (suc (suc j)) = tt

pub prefix_refused : (a c : List ℕ) → (sheet_fault (a ++ c)).number ≡ 0 → 0 < length c → (sheet_fault a).number ≢ 0
prefix_refused a c whole some part =
    let yes_to = (all_yes a).0 part in
    let buyers = ap number_of (field_front a c 0 (omega (arith, yes_to 1))) in
    let lots = ap number_of (field_front a c 6 (omega (arith, yes_to 1))) in
    omega (arith, length-append a c, yes_to 5, rw (buyers, lots) at ((all_yes (a ++ c)).0 whole 5))

pub sheets_all : Sheets
sheets_all =
    record {
      field_canonical = field_canonical;
      first_no = first_no;
      all_yes = all_yes;
      refusal_range = refusal_range;
      place_zero = place_zero;
      place_inside = place_inside;
      place_least = place_least;
      accepted_shape = accepted_shape;
      accepted_monotone = accepted_monotone;
      accepted_bytes =
          λ b accepted. written_same (sheet_of b) b (bytes_of (sheet_of b)) (accepted_written b accepted)
          (bytes_written (sheet_of b));
      bytes_accepted = λ w shape grows. written_accepted (bytes_of w) w shape (bytes_written w) grows;
      prefix_refused = prefix_refused;
      long_refused = long_refused;
      long_alike = long_alike;
    }
