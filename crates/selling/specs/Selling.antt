-- What a sale asks of the worths (`Sells`), and its answer as it is put together (`sold_by`).
use Rattle.std.specs.Prelude.{List, ℕ, ◌≤◌}
use Rattle.owners.specs.Singles.{AtMost, Topped}
use Rattle.raising.specs.Raising.{Rows}
use Rattle.closing.specs.declared.Closing.{Closing}
use Rattle.sale.specs.declared.Sale.{Sale}

-- of n lots to m buyers
pub record Sells (m n : ℕ) (ws : List ℕ) : Type 0 where
  pub few_buyers : m ≤ 6
  pub some_lots : 1 ≤ n
  pub few_lots : n ≤ 4
  pub worths : Rows ws
  pub small : AtMost 9999 ws
  pub topped : Topped m n ws

-- of the number of rounds, the last prices and the closing
abbrev pub sold_by : ℕ → ℕ → ℕ → List ℕ → Closing → Sale
sold_by m n rounds ps c =
    record {
      number = 0;
      place = 0;
      buyers = m;
      lots = n;
      rounds = rounds;
      prices = ps;
      owners = c.owners;
      discounts = c.discounts;
      payments = c.payments;
    }
