-- The questions of a list, in their order: what each answer on the way through `ask_list` says of the list's fault
-- (`size_bad`, `count_fault`, `large_fault`, `falling_fault`, `room_fault`, `no_fault`). A refusal has a number
-- (`refused_some`).
use mathlib.Core.Path.{◌≡◌, refl, sym, ap, ap₂, ◌∙◌}
use mathlib.Core.Logic.{◌≢◌}
use mathlib.Core.Bool.{Bool, true, false}
use mathlib.Core.List.{List, []}
use Rattle.std.specs.Prelude.{Option, Some, None, is_some}
use Prim.Native.Nat.{ℕ, zero, suc, ◌+◌, ◌-◌, ◌*◌, ◌^◌, ◌≤◌, ◌<◌}
use native.Mathlib.Omega.{arith}
use lib.ListN.{length}
use lib.Dec.{leb}
use borrow.Author.Tests.{eq-eqb, ne_eqb, le-leb, lt-leb}
use Rattle.sheet.specs.declared.Fault.{Fault}
use Rattle.sheet.specs.declared.Refusal.{Refusal}
use Rattle.sheet.specs.declared.Refusal.TheVariants.{Short, Head, Buyers, Lots, Length, Malformed, TooLarge, Falls}
use Rattle.sheet.specs.declared.Refusal.TheVariants.{Record, Buyer, Room}
use Rattle.sheet.specs.declared.Size.{Size}
use Rattle.sheet.specs.Sheets.{line_length, Sheet, as_sheet}
use Rattle.sheet.specs.Tables.{cells}
use Rattle.sheet.specs.Questions.{fault, ask, ask_each, between, first_wrong}
use Rattle.sheet.specs.Refusals.{fault_of, fault_at}
use Rattle.writing.specs.Lists.{listed, list_sheet}
use Rattle.writing.specs.Answers.{size_fault, IsSize, right_count, none_wrong, write_fault}

-- a question put to each place
abbrev pub asked_alone : ℕ → ℕ → ℕ → Fault
asked_alone q n x = ask_each q n x (λ _. fault 0 0)

-- the place that is wrong, if there is one, says whether one is
some_found : (n k x : ℕ) (r : Option ℕ) → fault_at (suc k) r ≡ asked_alone (suc k) n x → is_some r ≡ true → x ≢ 0
some_found n k x (Some p) e h z =
    let y : suc k ≡ 0 = ap (λ (f : Fault). f.number) (e ∙ ap (asked_alone (suc k) n) z) in omega arith
some_found n k x None e h z = cc

none_found : (n k x : ℕ) (r : Option ℕ) → fault_at (suc k) r ≡ asked_alone (suc k) n x → is_some r ≡ false → x ≡ 0
none_found n k x (Some p) e h = cc
none_found n k zero None e h = refl
none_found n k (suc j) None e h = absurd (let y : 0 ≡ suc k = ap (λ (f : Fault). f.number) e in omega arith)

-- a refusal has a number
pub refused_some : (r : Refusal) → (fault_of r).number ≢ 0
refused_some Short = λ e. omega arith
refused_some Head = λ e. omega arith
refused_some Buyers = λ e. omega arith
refused_some Lots = λ e. omega arith
refused_some Length = λ e. omega arith
refused_some (Malformed p) = λ e. omega arith
refused_some (TooLarge p) = λ e. omega arith
refused_some (Falls p) = λ e. omega arith
refused_some Record = λ e. omega arith
refused_some Buyer = λ e. omega arith
refused_some Room = λ e. omega arith

-- a question, where no fault is found (`asked_none`), or one that stays the first one with other questions after it
-- (`asked_kept`)
pub asked_none : (q : ℕ) (t : Bool) (rest : Unit {0} → Fault) → fault 0 0 ≡ ask (suc q) t rest →
    (t ≡ true) × (fault 0 0 ≡ rest tt)
asked_none q true rest e = (refl, e)
asked_none q false rest e = absurd (let y : 0 ≡ suc q = ap (λ (f : Fault). f.number) e in omega arith)

pub asked_kept : (q : ℕ) (t : Bool) (rest rest' : Unit {0} → Fault) (f : Fault) → f ≡ ask q t rest →
    (f ≡ rest tt → f ≡ rest' tt) → f ≡ ask q t rest'
asked_kept q true rest rest' f e h = h e
asked_kept q false rest rest' f e h = e

-- questions 3 and 4 alone
pub buyers_refused : (m n : ℕ) → between 6 m ≡ false → size_fault m n ≡ fault 3 0
buyers_refused m n q = rw q

pub lots_refused : (m n : ℕ) → between 6 m ≡ true → between 4 n ≡ false → size_fault m n ≡ fault 4 0
lots_refused m n q3 q = rw (q3, q)

pub size_passed : (m n : ℕ) → between 6 m ≡ true → between 4 n ≡ true → size_fault m n ≡ fault 0 0
size_passed m n q3 q4 = rw (q3, q4)

pub size_good : (m n : ℕ) → fault 0 0 ≡ size_fault m n → (between 6 m ≡ true) × (between 4 n ≡ true)
size_good m n e =
    let (e3, left) = asked_none 2 (between 6 m) _ e in (e3, (asked_none 3 (between 4 n) _ left).0)

pub size_bad : (m n : ℕ) (vs : List ℕ) (room : ℕ) (r : Refusal) → fault_of r ≡ size_fault m n →
    fault_of r ≡ write_fault m n vs room
unfolding write_fault
size_bad m n vs room r e =
    asked_kept 3 (between 6 m) _ _ (fault_of r) e (λ e.
    asked_kept 4 (between 4 n) _ _ (fault_of r) e (λ e.
    absurd (refused_some r (ap (λ (f : Fault). f.number) e))))

module _ (m n : ℕ) (vs : List ℕ) (room : ℕ) where
  abbrev w : Sheet
  w = list_sheet m n vs

  pub bad_buyers : between 6 m ≡ false → write_fault m n vs room ≡ fault 3 0
  unfolding write_fault
  bad_buyers q = rw q

  module _ (q3 : between 6 m ≡ true) where
    pub bad_lots : between 4 n ≡ false → write_fault m n vs room ≡ fault 4 0
    unfolding write_fault
    bad_lots q = rw (q3, q)

    module _ (q4 : between 4 n ≡ true) where
      pub bad_count : length vs ≢ m * (2 ^ n - 1) → write_fault m n vs room ≡ fault 5 0
      unfolding write_fault
      bad_count q = rw (q3, q4, ne_eqb (length vs) (m * (2 ^ n - 1)) q)

      pub refused_large : right_count m n vs ≡ true → none_wrong 7 w ≡ false → write_fault m n vs room ≡ fault 7 0
      unfolding write_fault
      refused_large q5 q = rw (q3, q4, q5, q)

      -- t is the table that the list fills, `large` and `falling` what is found in it
      module _ (q5 : length vs ≡ m * (2 ^ n - 1)) (t : List ℕ) (et : t ≡ cells m n (listed n vs)) where
        count_right : right_count m n vs ≡ true
        count_right = eq-eqb (length vs) (m * (2 ^ n - 1)) q5

        abbrev found : ℕ → ℕ
        found k = first_wrong k [] (as_sheet m n t)

        same : (k : ℕ) → found k ≡ first_wrong k [] w
        same k = ap (λ l. first_wrong k [] (as_sheet m n l)) et

        some-wrong : (k : ℕ) (r : Option ℕ) → fault_at (suc k) r ≡ asked_alone (suc k) n (found (suc k)) →
            is_some r ≡ true → none_wrong (suc k) w ≡ false
        some-wrong k r e h = ne_eqb (first_wrong (suc k) [] w) 0 (λ z. some_found n k (found (suc k)) r e h (same (suc k) ∙ z))

        none-wrong_lem : (k : ℕ) (r : Option ℕ) → fault_at (suc k) r ≡ asked_alone (suc k) n (found (suc k)) →
            is_some r ≡ false → none_wrong (suc k) w ≡ true
        none-wrong_lem k r e h = rw (← same (suc k)) (eq-eqb (found (suc k)) 0 (none_found n k (found (suc k)) r e h))

        module _ (large : Option ℕ) (e7 : fault_at 7 large ≡ asked_alone 7 n (found 7)) where
          pub too_large : is_some large ≡ true → write_fault m n vs room ≡ fault 7 0
          too_large h = refused_large count_right (some-wrong 6 large e7 h)

          module _ (q7 : is_some large ≡ false) (falls : Option ℕ) (e8 : fault_at 8 falls ≡ asked_alone 8 n (found 8)) where
            pub falling : is_some falls ≡ true → write_fault m n vs room ≡ fault 8 0
            unfolding write_fault
            falling h = rw (q3, q4, count_right, none-wrong_lem 6 large e7 q7, some-wrong 7 falls e8 h)

            pub room_asked : is_some falls ≡ false →
                write_fault m n vs room ≡ ask 11 (leb (13 + m * line_length n) room) (λ _. fault 0 0)
            unfolding write_fault
            room_asked q8 = rw (q3, q4, count_right, none-wrong_lem 6 large e7 q7, none-wrong_lem 7 falls e8 q8)

-- the same by the size that question 4 leaves
module _ (m n : ℕ) (size : Size) (is : IsSize m n size) (none : fault 0 0 ≡ size_fault m n) (vs : List ℕ)
    (room : ℕ) where
  good : (between 6 size.buyers ≡ true) × (between 4 size.lots ≡ true)
  good = size_good size.buyers size.lots (none ∙ sym (ap₂ size_fault is.0 is.1))

  as_asked : write_fault size.buyers size.lots vs room ≡ write_fault m n vs room
  as_asked = ap₂ (λ x y. write_fault x y vs room) is.0 is.1

  module _ (z : ℕ) (ez : z ≡ 2 ^ size.lots) where
    pub count_fault : (length vs ≡ size.buyers * (z - 1) → ⊥) → fault 5 0 ≡ write_fault m n vs room
    count_fault h =
        sym (bad_count size.buyers size.lots vs room good.0 good.1
        (λ e. h (e ∙ ap (λ x. size.buyers * (x - 1)) (sym ez)))) ∙ as_asked

    module _ (q5 : length vs ≡ size.buyers * (z - 1)) (t : List ℕ)
        (et : t ≡ cells size.buyers size.lots (listed size.lots vs)) where
      right : length vs ≡ size.buyers * (2 ^ size.lots - 1)
      right = q5 ∙ ap (λ x. size.buyers * (x - 1)) ez

      abbrev met : ℕ → ℕ
      met k = first_wrong k [] (as_sheet size.buyers size.lots t)

      module _ (large : Option ℕ) (e7 : fault_at 7 large ≡ asked_alone 7 size.lots (met 7)) where
        pub large_fault : is_some large ≡ true → fault 7 0 ≡ write_fault m n vs room
        large_fault h =
            sym (too_large size.buyers size.lots vs room good.0 good.1 right t et large e7 h) ∙ as_asked

        module _ (q7 : is_some large ≡ false) (falls : Option ℕ)
            (e8 : fault_at 8 falls ≡ asked_alone 8 size.lots (met 8)) where
          pub falling_fault : is_some falls ≡ true → fault 8 0 ≡ write_fault m n vs room
          falling_fault h =
              sym (falling size.buyers size.lots vs room good.0 good.1 right t et large e7 q7 falls e8 h) ∙ as_asked

          module _ (q8 : is_some falls ≡ false) (long : ℕ) (el : long ≡ 13 + size.buyers * line_length size.lots) where
            left : ask 11 (leb long room) (λ _. fault 0 0) ≡ write_fault m n vs room
            left =
                ap (λ x. ask 11 (leb x room) (λ _. fault 0 0)) el
                ∙ sym (room_asked size.buyers size.lots vs room good.0 good.1 right t et large e7 q7 falls e8 q8)
                ∙ as_asked

            pub room_fault : room < long → fault 11 0 ≡ write_fault m n vs room
            room_fault h = ap (λ x. ask 11 x (λ _. fault 0 0)) (sym (lt-leb long room h)) ∙ left

            pub no_fault : long ≤ room → fault 0 0 ≡ write_fault m n vs room
            no_fault h = ap (λ x. ask 11 x (λ _. fault 0 0)) (sym (le-leb long room h)) ∙ left
