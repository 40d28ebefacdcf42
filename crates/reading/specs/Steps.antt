-- What the functions on the way to an answer say, as records with named parts.
use Rattle.std.specs.Prelude.{◌≡◌, true, List, ℕ, ◌≤◌, length, get_or}
use Rattle.reading.specs.declared.FirstLine.{FirstLine}
use Rattle.fields.specs.Fields.{number_at}
use Rattle.sheet.specs.declared.size.Size.{Size}
use Rattle.sheet.specs.Sheets.{sheet_of}
use Rattle.sheet.specs.Questions.{head_good, lines_fault, sheet_fault}

-- ninety-six numbers that are worths
pub record Small (l : List ℕ) : Type 0 where
  pub long : length l ≡ 96
  pub small : (k : ℕ) → get_or l k 0 ≤ 9999

-- the numbers of a first line that question 2 lets pass
pub record HeadRead (b : List ℕ) (h : FirstLine) : Type 0 where
  pub good : head_good b ≡ true
  pub buyers : h.buyers ≡ number_at 0 b
  pub lots : h.lots ≡ number_at 6 b

-- the size in a first line that questions 1 to 5 let pass
pub record Passed (b : List ℕ) (s : Size) : Type 0 where
  pub buyers : s.buyers ≡ number_at 0 b
  pub lots : s.lots ≡ number_at 6 b
  pub rest : sheet_fault b ≡ lines_fault b (sheet_of b)
