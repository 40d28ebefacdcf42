-- That theorems with a condition say something: sheets, prices and sets that meet each condition, and differ where it
-- lets them. And that at prices brought from outside the empty set can be undersupplied.
use Rattle.std.specs.Prelude.{◌≡◌, ◌≢◌, true, List, [], ◌∷◌, ℕ, get_or, set, replicate}
use Rattle.theory.specs.Auction.{ProperSubset}
use Rattle.fields.specs.Fields.{lines_of}
use Rattle.owners.specs.Owners.{member}
use Rattle.sheet.specs.Sheets.{Sheet, sheet_of}
use Rattle.offers.specs.Offers.{lots_of, worth_of, market, undersupplied}
use Rattle.offers.specs.Claims.{Prices, Agree}
use Rattle.promises.specs.Claims.{AlikeBut}

-- the example of rule 6.5, and one in which buyer 1 says 1, 1 and 2
abbrev pub example : Sheet
example = sheet_of (lines_of ((2 ∷ 2 ∷ []) ∷ (2 ∷ 0 ∷ 2 ∷ []) ∷ (0 ∷ 1 ∷ 3 ∷ []) ∷ []))

abbrev pub other : Sheet
other = sheet_of (lines_of ((2 ∷ 2 ∷ []) ∷ (1 ∷ 1 ∷ 2 ∷ []) ∷ (0 ∷ 1 ∷ 3 ∷ []) ∷ []))

-- one lot, worths 5 and 3
abbrev pub one_lot : Sheet
one_lot = sheet_of (lines_of ((2 ∷ 1 ∷ []) ∷ (5 ∷ []) ∷ (3 ∷ []) ∷ []))

abbrev pub zeros : List ℕ
zeros = replicate 96 0

-- the same but for the empty bundle, an absent bundle and an absent buyer
abbrev pub unread : List ℕ
unread = set (set (set zeros 0 7) 4 7) 40 7

pub record Witnesses : Type 0 where
  -- the highest prices that can come from outside
  pub highest : Prices (replicate 96 65535)
  -- prices that agree where they are read
  pub agree : Agree (lots_of example) zeros unread
  pub elsewhere : (get_or unread 0 0 ≡ 7) × (get_or unread 4 0 ≡ 7) × (get_or unread 40 0 ≡ 7)
  -- sheets that differ in buyer 1's worths alone
  pub alike : AlikeBut 1 example other
  pub differ : worth_of (lots_of example) 1 1 ≢ worth_of (lots_of other) 1 1
  -- a proper subset: buyer 1 of buyers 1 and 2
  pub beneath : ProperSubset (market (lots_of example)) (member 1) (member 3)
  -- buyer 1 is asked 9 for a lot that it wants at 5 at most: the revenue is 9, so no allocation fits
  pub empty_set : undersupplied (lots_of one_lot) (set zeros 1 9) 0 ≡ true
