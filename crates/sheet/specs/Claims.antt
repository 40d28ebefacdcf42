-- The questions as propositions, one for each of rules 3.1 to 3.8, to read a sheet's fault by (`Question`); what is
-- wrong at an offset with 6, 7 and 8 (`WrongAt`, `LeastPlace`); what is known of an accepted sheet (`Shape`, `Grows`);
-- and all that is claimed of sheets (`Sheets`).
use Rattle.std.specs.Prelude.{◌≡◌, ◌≢◌, ◌⊎◌, ◌↔◌, true, List, [], ◌∷◌, ◌++◌, ℕ, suc, ◌+◌, ◌-◌, ◌*◌, ◌^◌, ◌≤◌, ◌<◌}
use Rattle.std.specs.Prelude.{length, take, drop, get_or, Ok, Err}
use Rattle.fields.specs.Fields.{field_at, columns}
use Rattle.numbers.specs.Numbers.{bit}
use Rattle.sheet.specs.Sheets.{Sheet, sheet_of, worth, bytes_of}
use Rattle.sheet.specs.Questions.{sheet_fault}

-- where place c of line i begins: six columns to a field, and a line end to a line
abbrev pub start_of : ℕ → ℕ → ℕ → ℕ
start_of n i c = 13 + (i * (6 * (2 ^ n - 1) + 1) + 6 * c)

abbrev pub GoodField : List ℕ → ℕ → Type 0
GoodField b at = (v : ℕ) × (field_at at b ≡ Ok v)

-- rules 3.1 to 3.8: question k stands at place k of the list; there is no question 0
abbrev pub questions : List ℕ → Sheet → List (Type 0)
questions b w =
    Unit {0}
    ∷ (13 ≤ length b)
    ∷ (GoodField b 0 × GoodField b 6 × (get_or b 12 0 ≡ 10))
    ∷ ((1 ≤ w.buyers) × (w.buyers ≤ 6))
    ∷ ((1 ≤ w.lots) × (w.lots ≤ 4))
    ∷ (length b ≡ 13 + w.buyers * (6 * (2 ^ w.lots - 1) + 1))
    ∷ (((i c : ℕ) → i < w.buyers → suc c < 2 ^ w.lots → GoodField b (start_of w.lots i c))
    × ((i : ℕ) → i < w.buyers → get_or b (start_of w.lots i (2 ^ w.lots - 1)) 0 ≡ 10))
    ∷ ((i s : ℕ) → i < w.buyers → s < 2 ^ w.lots → worth w i s ≤ 9999)
    ∷ ((i s j : ℕ) → i < w.buyers → s < 2 ^ w.lots → j < w.lots → bit j s ≡ true → s ≢ 2 ^ j →
    worth w i (s - 2 ^ j) ≤ worth w i s)
    ∷ []

abbrev pub Question : List ℕ → ℕ → Type 0
Question b k = get_or (questions b (sheet_of b)) k (Unit {0})

-- what is wrong by question 6, 7 or 8 at place c of line i (rule 3.13)
module _ (w : Sheet) (i c : ℕ) where
  abbrev pub Malformed : List ℕ → Type 0
  Malformed b =
      ((suc c < 2 ^ w.lots) × (field_at (start_of w.lots i c) b ≡ Err (start_of w.lots i c)))
      ⊎ ((suc c ≡ 2 ^ w.lots) × (get_or b (start_of w.lots i c) 0 ≢ 10))

  abbrev pub TooLarge : Type 0
  TooLarge = (suc c < 2 ^ w.lots) × (9999 < worth w i (suc c))

  abbrev pub Falls : Type 0
  Falls =
      (suc c < 2 ^ w.lots) × ((j : ℕ) × (j < w.lots) × (bit j (suc c) ≡ true)
      × (worth w i (suc c) < worth w i (suc c - 2 ^ j)))

-- p is the offset of a place that is wrong, and of the first that is
pub record WrongAt (w : Sheet) (T : ℕ → ℕ → Type 0) (p : ℕ) : Type 0 where
  pub line : ℕ
  pub place : ℕ
  pub below : (line < w.buyers) × (place < 2 ^ w.lots)
  pub offset_is : p ≡ start_of w.lots line place
  pub is_wrong : T line place

pub record LeastPlace (w : Sheet) (T : ℕ → ℕ → Type 0) (p : ℕ) : Type 0 where
  pub found : WrongAt w T p
  pub least : (q : ℕ) → WrongAt w T q → p ≤ q

-- the place of a refusal with 6, 7 or 8
abbrev pub Placed : List ℕ → ℕ → ℕ → Type 0
Placed b number p = let w = sheet_of b in
    (number ≡ 6 → LeastPlace w (λ i c. Malformed w i c b) p) × (number ≡ 7 → LeastPlace w (TooLarge w) p)
    × (number ≡ 8 → LeastPlace w (Falls w) p)

-- an accepted sheet's shape: its size (rule 1.2), its worths (rule 1.4), and 0 for absent buyers and bundles (rule 1.7)
pub record Shape (w : Sheet) : Type 0 where
  pub some_buyers : 1 ≤ w.buyers
  pub few_buyers : w.buyers ≤ 6
  pub some_lots : 1 ≤ w.lots
  pub few_lots : w.lots ≤ 4
  pub long : length w.worths ≡ 96
  pub small : (k : ℕ) → get_or w.worths k 0 ≤ 9999
  pub empty : (i : ℕ) → worth w i 0 ≡ 0
  pub nobody : (i s : ℕ) → s < 16 → w.buyers ≤ i → worth w i s ≡ 0
  pub nothing : (i s : ℕ) → s < 16 → 2 ^ w.lots ≤ s → worth w i s ≡ 0

-- a bundle is worth at least as much as with one lot fewer
abbrev pub Grows : Sheet → Type 0
Grows w =
    (i s j : ℕ) → i < w.buyers → s < 2 ^ w.lots → j < w.lots → bit j s ≡ true → worth w i (s - 2 ^ j) ≤ worth w i s

-- of any bytes b
pub record Sheets : Type 0 where
  -- a field has the number v exactly if its six bytes are those in which v is written
  pub field_canonical : (b : List ℕ) (at v : ℕ) →
      (field_at at b ≡ Ok v) ↔ ((at + 6 ≤ length b) × (v ≤ 999999) × (take 6 (drop at b) ≡ columns 6 v))
  -- the number is that of the first question that gets a "no"
  pub first_no : (b : List ℕ) (k : ℕ) → 1 ≤ k →
      ((sheet_fault b).number ≡ k) ↔ (((j : ℕ) → j < k → Question b j) × (Question b k → ⊥))
  pub all_yes : (b : List ℕ) → ((sheet_fault b).number ≡ 0) ↔ ((k : ℕ) → Question b k)
  pub refusal_range : (b : List ℕ) → (sheet_fault b).number ≤ 8
  -- the place is 0, or with 6, 7 and 8 the least offset of what is wrong
  pub place_zero : (b : List ℕ) → (sheet_fault b).number < 6 → (sheet_fault b).place ≡ 0
  pub place_inside : (b : List ℕ) → 6 ≤ (sheet_fault b).number →
      (13 ≤ (sheet_fault b).place) × ((sheet_fault b).place < length b)
  pub place_least : (b : List ℕ) → Placed b (sheet_fault b).number (sheet_fault b).place
  -- an accepted sheet is a table of worths that grow, as it is written; and every such table, so written, is accepted
  -- and read as it is
  pub accepted_shape : (b : List ℕ) → (sheet_fault b).number ≡ 0 → Shape (sheet_of b)
  pub accepted_monotone : (b : List ℕ) → (sheet_fault b).number ≡ 0 → let w = sheet_of b in
      (i s t : ℕ) → i < w.buyers → s < 2 ^ w.lots → t < 2 ^ w.lots →
      ((j : ℕ) → j < w.lots → bit j s ≡ true → bit j t ≡ true) → worth w i s ≤ worth w i t
  pub accepted_bytes : (b : List ℕ) → (sheet_fault b).number ≡ 0 → b ≡ bytes_of (sheet_of b)
  pub bytes_accepted : (w : Sheet) → Shape w → Grows w →
      ((sheet_fault (bytes_of w)).number ≡ 0) × (sheet_of (bytes_of w) ≡ w)
  -- a sheet with bytes missing at its end is refused; one of 560 bytes or more is, and those after them make no
  -- difference
  pub prefix_refused : (a c : List ℕ) → (sheet_fault (a ++ c)).number ≡ 0 → 0 < length c → (sheet_fault a).number ≢ 0
  pub long_refused : (b : List ℕ) → 560 ≤ length b → (sheet_fault b).number ≢ 0
  pub long_alike : (a c : List ℕ) → 560 ≤ length a → sheet_fault (a ++ c) ≡ sheet_fault a
