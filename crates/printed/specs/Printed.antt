-- The printed sale (section 6 of the rules): the bytes that are printed of a sale's answer (`printed`), and of a sheet
-- (`printed_sale`).
use Rattle.std.specs.Prelude.{◌≡◌, ◌≢◌, List, [], ◌∷◌, ◌++◌, ℕ, ◌+◌, ◌^◌, ◌≤◌, ◌<◌, eqb, length, take, get_or}
use Rattle.std.specs.Prelude.{replicate}
use Rattle.theory.specs.Sums.{Among, pick}
use Rattle.theory.specs.Lists.{tabulate, over}
use Rattle.fields.specs.Fields.{line_of, lines_of}
use Rattle.owners.specs.Owners.{bundle_from, single}
use Rattle.owners.specs.Prices.{buyer_rows, price}
use Rattle.sale.specs.declared.Sale.{Sale}
use Rattle.sheet.specs.Questions.{accepts, onward, sheet_fault}
use Rattle.offers.specs.Offers.{offer_of}
use Rattle.offers.specs.Rounds.{round_limit}
use Rattle.sale.specs.Answers.{sale_fault, settled_sale, sale_answer, sale_record, SaleSays}
use Rattle.promises.specs.Claims.{Own, unplaced, Numbered}
use Rattle.printing.specs.declared.Text.{Text}

-- rule 6.3: the line of a lot; lots are counted from 0 here
abbrev pub lot_line : List ℕ → ℕ → List ℕ
lot_line owners j = (j + 1) ∷ get_or owners j 0 ∷ []

-- rule 6.3: the line of a buyer, counted from 0 as well
abbrev pub buyer_line : Sale → ℕ → List ℕ
buyer_line r i =
    (i + 1) ∷ price (buyer_rows 6) r.prices (i + 1) (bundle_from single 0 (i + 1) (take r.lots r.owners))
    ∷ get_or r.discounts i 0 ∷ get_or r.payments i 0 ∷ []

-- rule 6.3: the first line, then those of the lots and of the buyers
abbrev pub settled_lines : Sale → List (List ℕ)
settled_lines r =
    (0 ∷ r.buyers ∷ r.lots ∷ r.rounds ∷ [])
    ∷ (tabulate r.lots 0 (lot_line r.owners) ++ tabulate r.buyers 0 (buyer_line r))

abbrev pub settled_text : Sale → List ℕ
settled_text r = lines_of (settled_lines r)

-- rule 6.4: the line of a refusal
abbrev pub refused_text : ℕ → ℕ → List ℕ
refused_text number place = line_of (number ∷ place ∷ [])

abbrev pub printed : Sale → List ℕ
printed r = pick (eqb r.number 0) (settled_text r) (refused_text r.number r.place)

-- what is printed of a sheet whose sale has all the record that it needs: refused by questions 1 to 8 alone
unfoldable pub printed_sale : List ℕ → List ℕ
printed_sale b =
    let f = sheet_fault b in
    onward (accepts f) (λ _. settled_text (settled_sale (offer_of b))) (refused_text f.number f.place)

-- a text put at the front of a buffer o: its length is answered; or 0, where it has no room, and the buffer keeps its
-- bytes
pub record Puts (text o o' : List ℕ) (r : ℕ) : Type 0 where
  pub whole : length text ≤ length o → (r ≡ length text) × (o' ≡ over text o)
  pub none : length o < length text → (r ≡ 0) × (o' ≡ o)

-- an answer whose numbers all fit six columns, of at most six buyers and four lots; prices of the buyers and bundles
-- there are, in a table that has a row for each buyer
pub record Printable (r : Sale) : Type 0 where
  pub number : r.number < 1000000
  pub place : r.place < 1000000
  pub buyers : r.buyers ≤ 6
  pub lots : r.lots ≤ 4
  pub rounds : r.rounds < 1000000
  pub owners : (j : ℕ) → get_or r.owners j 0 < 1000000
  pub table : 96 ≤ length r.prices
  pub prices : (i s : ℕ) → Among r.buyers 1 i → s < 2 ^ r.lots → price (buyer_rows 6) r.prices i s < 1000000
  pub discounts : (k : ℕ) → get_or r.discounts k 0 < 1000000
  pub payments : (k : ℕ) → get_or r.payments k 0 < 1000000

-- the record and the buffer after a printed sale; t is the buffer before
pub record PrintSays (b o o' t t' : List ℕ) (r : ℕ) : Type 0 where
  pub bytes : o' ≡ sale_record b o
  pub prints : Puts (printed (sale_answer b (length o))) t t' r

-- a sheet's text at the front of 227 bytes, of which the others are 0
abbrev pub text_of : List ℕ → Text 227
text_of b = record { bytes = over (printed_sale b) (replicate 227 0); length = length (printed_sale b) }

-- demand 1 of the entries that print: they print a sale's answer, with a sale's number and place; a refusal is one
-- line, and leaves the record as it was. A record of 59,994 bytes, as `sale_text` has, is never too short: there is no
-- question 9 then.
pub record PrintsSale (b o o' : List ℕ) (own : List Own) (text : List ℕ) : Type 0 where
  pub answer : Sale
  pub says : SaleSays b o o' answer
  pub numbered : Numbered b own answer.number answer.place
  pub text_is : text ≡ printed answer
  pub refused : answer.number ≢ 0 → (text ≡ refused_text answer.number answer.place) × (o' ≡ o)

-- what is claimed of printing, whatever the bytes
pub record Prints : Type 0 where
  pub prints : (b o o' t t' : List ℕ) (r : ℕ) → PrintSays b o o' t t' r →
      (text : List ℕ) × PrintsSale b o o' (unplaced 9 (round_limit (offer_of b) ≤ length o) ∷ []) text
      × Puts text t t' r
  pub texts : (b o : List ℕ) → 59994 ≤ length o → (o' : List ℕ) × PrintsSale b o o' [] (printed_sale b)
  -- every printed number has at most six digits
  pub prints_fit : (b o o' : List ℕ) (r : Sale) → SaleSays b o o' r → Printable r
  -- question 9's sum is at most 59,994, so that a record of that length is never refused
  pub never_nine : (b : List ℕ) (room : ℕ) → 59994 ≤ room → (sale_fault b room).number ≢ 9
  -- what is printed is then the same whatever the record
  pub any_record : (b : List ℕ) (room : ℕ) → 59994 ≤ room → printed (sale_answer b room) ≡ printed_sale b
  -- a print is never empty, so that 0 is answered only where it has no room; and it is never long
  pub shortest : (r : Sale) → 13 ≤ length (printed r)
  pub longest : (b : List ℕ) → length (printed_sale b) ≤ 227
  -- a sheet is told by its first 560 bytes: what comes after them makes no difference
  pub cut : (b : List ℕ) → printed_sale (take 560 b) ≡ printed_sale b
