-- The starred sales (section 7 of the rules) as one table, with rows that catch what those miss. A row has a sheet, the
-- record's length, the answers of reading, of a sale and of the direct way, and all owner lists of greatest total.
-- Sheets are given by their numbers: `sheet_by` lays out the bytes.
use Rattle.std.specs.Prelude.{◌≡◌, List, [], ◌∷◌, ◌++◌, map, ℕ, ◌-◌, eqb, length, take, set, replicate}
use Rattle.fields.specs.Fields.{lines_of}
use Rattle.sheet.specs.declared.Read.{Read}
use Rattle.sheet.specs.Sheets.{sheet_of}
use Rattle.sheet.specs.Questions.{accepts, onward, sheet_fault}
use Rattle.sheet.specs.Answers.{sheet_read}
use Rattle.theory.specs.Lists.{keep, over}
use Rattle.offers.specs.Offers.{lots_of}
use Rattle.offers.specs.Rounds.{total_of}
use Rattle.offers.specs.Places.{four}
use Rattle.sale.specs.declared.Sale.{Sale}
use Rattle.sale.specs.Answers.{sale_answer, sale_record}
use Rattle.direct.specs.declared.Direct.{Direct}
use Rattle.direct.specs.Answers.{direct_answer}

-- the bytes of a sheet of m buyers and n lots
abbrev pub sheet_by : ℕ → ℕ → List (List ℕ) → List ℕ
sheet_by m n worths = lines_of ((m ∷ n ∷ []) ∷ worths)

-- prices from bundle 1 on, sixteen places to a buyer; and six places, one to a buyer
abbrev pub sixteen : List (List ℕ) → List ℕ
sixteen [] = []
sixteen (l ∷ ls) = (0 ∷ (l ++ replicate (15 - length l) 0)) ++ sixteen ls

abbrev pub padded : ℕ → List ℕ → List ℕ
padded k l = l ++ replicate (k - length l) 0

pub record Row : Type 0 where
  pub sheet : List ℕ
  pub room : ℕ
  pub read : Read
  pub sale : Sale
  pub sets : List ℕ
  pub direct : Direct
  pub greatest : List (List ℕ)

-- worths, the record's length; the sets of the rounds, the last prices; owners, discounts, payments and the greatest
-- total; and the lists of that total that come after the owners, in order
abbrev pub sold : ℕ → ℕ → List (List ℕ) → ℕ → List ℕ → List (List ℕ) → List ℕ → List ℕ → List ℕ → ℕ →
    List (List ℕ) → Row
sold m n worths room sets prices owners discounts payments total ties =
    record {
      sheet = sheet_by m n worths;
      room = room;
      read = record { number = 0; place = 0; buyers = m; lots = n };
      sale = record {
        number = 0;
        place = 0;
        buyers = m;
        lots = n;
        rounds = length sets;
        prices = padded 96 (sixteen prices);
        owners = four owners;
        discounts = padded 6 discounts;
        payments = padded 6 payments;
      };
      sets = sets;
      direct = record { number = 0; place = 0; total = total; owners = four owners; payments = padded 6 payments };
      greatest = owners ∷ ties;
    }

-- rule 3.14, with the zeros written out
abbrev pub no_sale : ℕ → ℕ → Sale
no_sale number place =
    record {
      number = number;
      place = place;
      buyers = 0;
      lots = 0;
      rounds = 0;
      prices = replicate 96 0;
      owners = 0 ∷ 0 ∷ 0 ∷ 0 ∷ [];
      discounts = 0 ∷ 0 ∷ 0 ∷ 0 ∷ 0 ∷ 0 ∷ [];
      payments = 0 ∷ 0 ∷ 0 ∷ 0 ∷ 0 ∷ 0 ∷ [];
    }

-- a record that is too short; reading and the direct way have none
abbrev pub too_short : ℕ → ℕ → List (List ℕ) → ℕ → List ℕ → List ℕ → ℕ → List (List ℕ) → Row
too_short m n worths room owners payments total ties =
    record {
      sheet = sheet_by m n worths;
      room = room;
      read = record { number = 0; place = 0; buyers = m; lots = n };
      sale = no_sale 9 0;
      sets = [];
      direct = record { number = 0; place = 0; total = total; owners = four owners; payments = padded 6 payments };
      greatest = owners ∷ ties;
    }

-- a sheet that is refused, with a number and a place
abbrev pub refuses : List ℕ → ℕ → ℕ → Row
refuses sheet number place =
    record {
      sheet = sheet;
      room = 20;
      read = record { number = number; place = place; buyers = 0; lots = 0 };
      sale = no_sale number place;
      sets = [];
      direct = record {
        number = number;
        place = place;
        total = 0;
        owners = 0 ∷ 0 ∷ 0 ∷ 0 ∷ [];
        payments = 0 ∷ 0 ∷ 0 ∷ 0 ∷ 0 ∷ 0 ∷ [];
      };
      greatest = [];
    }

abbrev pub rows : List Row
rows =
    -- rules 7.2 and 7.3: the example, with 5 bytes of record
    sold 2 2 ((2 ∷ 0 ∷ 2 ∷ []) ∷ (0 ∷ 1 ∷ 3 ∷ []) ∷ []) 5
    (3 ∷ 3 ∷ []) ((2 ∷ 0 ∷ 2 ∷ []) ∷ (0 ∷ 0 ∷ 2 ∷ []) ∷ [])
    (1 ∷ 2 ∷ []) (0 ∷ 0 ∷ []) (2 ∷ 0 ∷ []) 3 ((2 ∷ 2 ∷ []) ∷ []) ∷
    -- rule 7.3: with 4
    too_short 2 2 ((2 ∷ 0 ∷ 2 ∷ []) ∷ (0 ∷ 1 ∷ 3 ∷ []) ∷ []) 4
    (1 ∷ 2 ∷ []) (2 ∷ 0 ∷ []) 3 ((2 ∷ 2 ∷ []) ∷ []) ∷
    -- rule 7.4: table 3 of the paper
    sold 3 2 ((3 ∷ 0 ∷ 3 ∷ []) ∷ (0 ∷ 6 ∷ 6 ∷ []) ∷ (0 ∷ 2 ∷ 4 ∷ []) ∷ []) 13
    (5 ∷ 2 ∷ 4 ∷ 1 ∷ 2 ∷ 4 ∷ 2 ∷ 4 ∷ 2 ∷ []) ((2 ∷ 0 ∷ 2 ∷ []) ∷ (0 ∷ 4 ∷ 4 ∷ []) ∷ (0 ∷ 2 ∷ 4 ∷ []) ∷ [])
    (1 ∷ 2 ∷ []) (2 ∷ 2 ∷ 0 ∷ []) (0 ∷ 2 ∷ 0 ∷ []) 9 [] ∷
    -- rule 7.5: one lot, worths of 5 and 3
    sold 2 1 ((5 ∷ []) ∷ (3 ∷ []) ∷ []) 8
    (3 ∷ 3 ∷ 3 ∷ []) ((3 ∷ []) ∷ (3 ∷ []) ∷ [])
    (1 ∷ []) (0 ∷ 0 ∷ []) (3 ∷ 0 ∷ []) 5 [] ∷
    -- rule 7.6: one lot, worths of 4 and 4
    sold 2 1 ((4 ∷ []) ∷ (4 ∷ []) ∷ []) 8
    (3 ∷ 3 ∷ 3 ∷ 3 ∷ []) ((4 ∷ []) ∷ (4 ∷ []) ∷ [])
    (1 ∷ []) (0 ∷ 0 ∷ []) (4 ∷ 0 ∷ []) 4 ((2 ∷ []) ∷ []) ∷
    -- rule 7.7: a sole buyer, with 7 bytes of record and with 6
    sold 1 1 ((7 ∷ []) ∷ []) 7
    [] ((0 ∷ []) ∷ [])
    (1 ∷ []) (0 ∷ []) (0 ∷ []) 7 [] ∷
    too_short 1 1 ((7 ∷ []) ∷ []) 6
    (1 ∷ []) (0 ∷ []) 7 [] ∷
    -- rule 7.8: one lot, worth 0 to two buyers
    sold 2 1 ((0 ∷ []) ∷ (0 ∷ []) ∷ []) 0
    [] ((0 ∷ []) ∷ (0 ∷ []) ∷ [])
    (0 ∷ []) (0 ∷ 0 ∷ []) (0 ∷ 0 ∷ []) 0 ((1 ∷ []) ∷ (2 ∷ []) ∷ []) ∷
    -- rule 7.9: twelve bytes; rule 7.10: a first line alone
    refuses (take 12 (sheet_by 2 2 ((2 ∷ 0 ∷ 2 ∷ []) ∷ (0 ∷ 1 ∷ 3 ∷ []) ∷ []))) 1 0 ∷
    refuses (sheet_by 1 1 []) 5 0 ∷
    -- rule 7.12: worths that fall
    refuses (sheet_by 2 2 ((4 ∷ 0 ∷ 3 ∷ []) ∷ (0 ∷ 1 ∷ 3 ∷ []) ∷ [])) 8 25 ∷
    -- rule 7.13: a worth of 10,000; rule 7.14: "    03" for a worth, and in the first line
    refuses (sheet_by 1 1 ((10000 ∷ []) ∷ [])) 7 13 ∷
    refuses (set (sheet_by 1 1 ((3 ∷ []) ∷ [])) 17 48) 6 13 ∷
    refuses (set (sheet_by 3 1 ((3 ∷ []) ∷ (3 ∷ []) ∷ (3 ∷ []) ∷ [])) 4 48) 2 0 ∷
    -- the economies that lack only a loser show in the record
    sold 3 2 ((0 ∷ 1 ∷ 1 ∷ []) ∷ (0 ∷ 0 ∷ 2 ∷ []) ∷ (1 ∷ 0 ∷ 1 ∷ []) ∷ []) 4
    (3 ∷ 4 ∷ 2 ∷ []) ((0 ∷ 1 ∷ 1 ∷ []) ∷ (0 ∷ 0 ∷ 2 ∷ []) ∷ (1 ∷ 0 ∷ 1 ∷ []) ∷ [])
    (2 ∷ 2 ∷ []) (0 ∷ 0 ∷ 0 ∷ []) (0 ∷ 2 ∷ 0 ∷ []) 2 ((3 ∷ 1 ∷ []) ∷ []) ∷
    -- the last lot is not compared first
    sold 2 2 ((1 ∷ 1 ∷ 1 ∷ []) ∷ (1 ∷ 1 ∷ 1 ∷ []) ∷ []) 2
    [] ((0 ∷ 0 ∷ 0 ∷ []) ∷ (0 ∷ 0 ∷ 0 ∷ []) ∷ [])
    (1 ∷ 2 ∷ []) (0 ∷ 0 ∷ []) (0 ∷ 0 ∷ []) 2 ((2 ∷ 1 ∷ []) ∷ []) ∷
    -- table 3 with its buyers in other orders
    sold 3 2 ((3 ∷ 0 ∷ 3 ∷ []) ∷ (0 ∷ 2 ∷ 4 ∷ []) ∷ (0 ∷ 6 ∷ 6 ∷ []) ∷ []) 13
    (3 ∷ 3 ∷ 4 ∷ 2 ∷ 4 ∷ 2 ∷ 4 ∷ 4 ∷ []) ((2 ∷ 0 ∷ 2 ∷ []) ∷ (0 ∷ 2 ∷ 4 ∷ []) ∷ (0 ∷ 4 ∷ 4 ∷ []) ∷ [])
    (1 ∷ 3 ∷ []) (2 ∷ 0 ∷ 2 ∷ []) (0 ∷ 0 ∷ 2 ∷ []) 9 [] ∷
    sold 3 2 ((0 ∷ 6 ∷ 6 ∷ []) ∷ (0 ∷ 2 ∷ 4 ∷ []) ∷ (3 ∷ 0 ∷ 3 ∷ []) ∷ []) 13
    (3 ∷ 3 ∷ 3 ∷ 3 ∷ 4 ∷ 4 ∷ []) ((0 ∷ 4 ∷ 4 ∷ []) ∷ (0 ∷ 2 ∷ 4 ∷ []) ∷ (2 ∷ 0 ∷ 2 ∷ []) ∷ [])
    (3 ∷ 1 ∷ []) (2 ∷ 0 ∷ 2 ∷ []) (2 ∷ 0 ∷ 0 ∷ []) 9 [] ∷
    []

-- the owner lists of a total, in order
abbrev pub lists_of : List ℕ → ℕ → List (List ℕ)
lists_of b total =
    let w = sheet_of b in
    onward (accepts (sheet_fault b)) (λ _. keep (λ a. eqb (total_of (lots_of w) a) total) (lots_of w).lists) []

-- what the definitions answer for a row, and what the row has; the record has other bytes before the sale
abbrev pub Answers : Type 0
Answers = Read × Sale × List ℕ × Direct × List (List ℕ)

abbrev pub before : Row → List ℕ
before r = replicate r.room 170

abbrev pub told : Row → Answers
told r =
    let b = r.sheet in
    (sheet_read b, sale_answer b r.room, sale_record b (before r), direct_answer b, lists_of b r.direct.total)

abbrev pub meant : Row → Answers
meant r = (r.read, r.sale, over r.sets (before r), r.direct, r.greatest)

abbrev pub Starred : Type 0
Starred = map told rows ≡ map meant rows
