-- The rounds of a sale by coalition values. What a bidder has left is read off the prices of the bundle of all, the
-- lowest undersupplied set follows from it and the values, and the raise from it and the worths. Offers `left`,
-- `raised_by`, and the roster of m buyers (`roster_in`).
use Rattle.std.specs.Prelude.{Bool, true, ◌&&◌, List, ℕ, zero, suc, ◌+◌, ◌-◌, ◌*◌, ◌/◌, ◌^◌, ltb, leb, get_or}
use Rattle.theory.specs.Sums.{when}
use Rattle.theory.specs.Lists.{tabulate}
use Rattle.theory.specs.Markets.{Table, other_than}
use Rattle.theory.specs.Coalitions.{Roster}
use Rattle.owners.specs.Owners.{member}
use Rattle.owners.specs.Prices.{Layout, price}

module _ (L : Layout) where
  -- what bidder i has left of its worth of `top`
  abbrev pub left : Table → ℕ → List ℕ → ℕ → ℕ
  left v top ps i = v i top - price L ps i top

  -- the price of row j for bundle s rises: the row's bidder is a member, and the bundle is worth what it has left
  abbrev pub rising : ℕ → Table → (ℕ → Bool) → (ℕ → ℕ) → ℕ → ℕ → Bool
  rising all v set π j s =
      L.taken j && (leb 1 s && (ltb s all && (set (L.bidder_at j) && leb (π (L.bidder_at j)) (v (L.bidder_at j) s))))

  abbrev pub risen_at : ℕ → Table → (ℕ → Bool) → (ℕ → ℕ) → List ℕ → ℕ → ℕ
  risen_at all v set π ps k = get_or ps k 0 + when (rising all v set π (k / 16) (k - 16 * (k / 16))) 1

  unfoldable pub raised_by : ℕ → Table → (ℕ → Bool) → (ℕ → ℕ) → List ℕ → List ℕ
  raised_by all v set π ps = tabulate (16 * L.rows) 0 (risen_at all v set π ps)

-- who is present in economy e of m buyers: everybody in 0, and in another everybody but buyer e
abbrev pub present_in : ℕ → ℕ → Bool
present_in zero i = true
present_in (suc e) i = other_than (suc e) i

-- m buyers, judged in the economies 0 to k; and in all economies
abbrev pub roster_in : ℕ → ℕ → Roster
roster_in m k = record { many = m; low = 1; member = member; sets = 2 ^ m; presents = tabulate (suc k) 0 present_in }

abbrev pub roster : ℕ → Roster
roster m = roster_in m m
