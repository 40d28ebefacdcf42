-- Demand at any prices, by tables of sixteen numbers to a bidder. Offers `quoted`, the answers of bidders with these
-- worths, and `Covers`, tables that have a bidder's row. Who else bids plays no part.
use Rattle.std.specs.Prelude.{List, ℕ, ◌+◌, ◌*◌, ◌≤◌, length}
use Rattle.theory.specs.Auction.{Quote}
use Rattle.owners.specs.Prices.{row, entry, layout, quote}

-- for bundles below `all`
abbrev pub quoted : ℕ → List ℕ → List ℕ → Quote
quoted all ws ps = quote (layout 0 6) all (entry ws) ps

abbrev pub Covers : ℕ → List ℕ → List ℕ → Type 0
Covers i ws ps = (i ≤ 6) × (16 * row i + 16 ≤ length ws) × (16 * row i + 16 ≤ length ps)
