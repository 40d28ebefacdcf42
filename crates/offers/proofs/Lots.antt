-- The lots of a sheet are an offer that the theory is about (`lots_regular`, and of accepted sheets `regular`), and
-- their allocations are all owner lists, in order (`allocated`).
use mathlib.Core.Path.{◌≡◌, refl, sym, ◌∙◌}
use mathlib.Core.Logic.{◌≢◌, ◌↔◌}
use mathlib.Core.Bool.{true}
use mathlib.Core.List.{List}
use Prim.Native.Nat.{ℕ, zero, suc, ◌-◌, ◌^◌, ◌≤◌, ◌<◌}
use native.Mathlib.Omega.{arith}
use native.Mathlib.Decide.{ℕ_discrete}
use lib.ListN.{length, get_or, replicate}
use borrow.Author.Tests.{eq-eqb, ne_eqb, eqb-true}
use Rattle.theory.specs.Lists.{◌∈◌, Ordered}
use Rattle.theory.specs.Tests.{every}
use Rattle.theory.proofs.Lists.{keep_in, keep_from, up_to_in, up_to_from, first_ordered, all_zero}
use Rattle.theory.proofs.Tests.{itself, every_means}
use Rattle.numbers.specs.Numbers.{bit}
use Rattle.numbers.proofs.Numbers.{pow_some}
use Rattle.owners.specs.Owners.{ComesBefore, lacks, zero_first}
use Rattle.owners.specs.Singles.{AtMost, Topped}
use Rattle.owners.proofs.Owners.{allocation_in, allocation_from, lacks_means, some_allocation}
use Rattle.owners.proofs.Singles.{singles, singles_buyer, singles_worths, singles_below, bundle_bit}
use Rattle.owners.proofs.Order as order
use Rattle.sheet.specs.Sheets.{Sheet, sheet_of, worth}
use Rattle.sheet.specs.Questions.{sheet_fault}
use Rattle.sheet.specs.Claims.{Shape}
use Rattle.sheet.proofs.Theorems.{accepted_shape, accepted_monotone}
use Rattle.offers.specs.Offers.{Offer, lots_among, lots_of, market, worth_of, economy}
use Rattle.offers.specs.Claims.{Allocated, Regular}

-- lots of which nobody has one
replicate-lacks : (i n : ℕ) → 1 ≤ i → lacks i (replicate n 0) ≡ true
replicate-lacks i zero h = refl
replicate-lacks i (suc n) h = rw (ne_eqb 0 i (λ z. omega arith), replicate-lacks i n h)

module _ (m n : ℕ) (ws : List ℕ) where
  abbrev O : Offer
  O = lots_among m n ws

  -- the allocations listed are those of rule 5.6
  pub allocations_all : (a : List ℕ) → (a ∈ O.lists) ↔ ((length a ≡ n) × ((o : ℕ) → o ∈ a → o ≤ m))
  allocations_all a = (
    λ h. let (l, from) = allocation_from (zero_first m) n h in
        (l, λ o k. omega (arith, up_to_from (suc m) 0 (from o k))),
    λ h. allocation_in (zero_first m) n a h.0 (λ o k. up_to_in (suc m) 0 (omega (arith, h.1 o k))),
  )

  -- in the order of rule 1.10
  pub allocations_ordered : Ordered (ComesBefore ◌<◌) O.lists
  allocations_ordered = order.allocations_ordered ◌<◌ (zero_first m) (first_ordered (suc m) 0) n

  -- the economy without e has the allocations that give e nothing
  pub economy_all : (e : ℕ) → 1 ≤ e → (a : List ℕ) → (a ∈ economy O e) ↔ ((a ∈ O.lists) × (lacks e a ≡ true))
  economy_all zero h a = absurd (omega arith)
  economy_all (suc e) h a = (λ k. keep_from (lacks (suc e)) O.lists k, λ c. keep_in (lacks (suc e)) c.0 c.1)

  -- a bundle's bits are the lots that its buyer owns
  pub bundle_below : (a : List ℕ) → a ∈ O.lists → (i : ℕ) → (market O).holds a i < 2 ^ n
  bundle_below a k i = singles_below n i a ((allocations_all a).0 k).0

  pub bundle_bits : (a : List ℕ) → a ∈ O.lists → (i j : ℕ) → j < n →
      (bit j ((market O).holds a i) ≡ true) ↔ (get_or a j 0 ≡ i)
  bundle_bits a k i j h =
      let is = bundle_bit i a j (omega (arith, ((allocations_all a).0 k).0)) in
      (λ e. eqb-true (get_or a j 0) i (sym is ∙ e), λ e. is ∙ eq-eqb (get_or a j 0) i e)

  nothing_sold : replicate n 0 ∈ O.lists
  nothing_sold = some_allocation (zero_first m) 0 (up_to_in (suc m) 0 (omega arith)) n

  pub economy-some : (e : ℕ) → replicate n 0 ∈ economy O e
  economy-some zero = nothing_sold
  economy-some (suc e) = keep_in (lacks (suc e)) nothing_sold (replicate-lacks (suc e) n (omega arith))

  -- a lone buyer's absence leaves nothing to choose
  pub economy_alone : m ≡ 1 → (a : List ℕ) → (a ∈ economy O 1) ↔ (a ≡ replicate n 0)
  economy_alone one a = (
    λ k.
        let (listed, none) = (economy_all 1 (omega arith) a).0 k in
        let (long, few) = (allocations_all a).0 listed in
        all_zero n a long (λ o q.
        let other = (lacks_means 1 a).0 none o q in
        low o (omega (arith, few o q)) other),
    λ e. rw e (economy-some 1),
  )
    where
      low : (o : ℕ) → o ≤ 1 → o ≢ 1 → o ≡ 0
      low zero h other = refl
      low (suc o) h other = absurd (other (omega arith))

  pub allocated : Allocated O
  allocated =
      record {
        allocations_all = allocations_all;
        allocations_ordered = allocations_ordered;
        economy-whole = refl;
        economy_all = economy_all;
        economy_alone = economy_alone;
        bundle_bits = bundle_bits;
        bundle_below = bundle_below;
      }

  nobody_in : 0 ∈ zero_first m
  nobody_in = up_to_in (suc m) 0 {i = 0} (omega arith)

  pub lots_regular : m ≤ 6 → n ≤ 4 → AtMost 65535 ws → Topped m n ws → Regular O
  lots_regular few short small topped =
      record {
        setting = singles m n few short (zero_first m) nobody_in;
        worths = singles_worths m n few short (zero_first m) nobody_in (worth_of O) (λ i r. refl) topped;
        some = λ e. (replicate n 0, economy-some e);
        buyer = singles_buyer m n few short (zero_first m) nobody_in;
        small = small;
      }

-- the bundle of all lots has every lot
all_bits : (n j : ℕ) → n ≤ 4 → j < n → bit j (2 ^ n - 1) ≡ true
all_bits n j h g =
    let test : every 5 0 (λ n. every n 0 (λ j. bit j (2 ^ n - 1))) ≡ true = refl in
    (every_means 5 0 {t = λ n. every n 0 (λ j. bit j (2 ^ n - 1))}
    (λ n r. every_means n 0 (λ j r. itself (bit j (2 ^ n - 1))))).0 test n (omega arith) j (omega arith)

-- a buyer's worth stands on its line
pub worth-line : (w : Sheet) → ((i : ℕ) → worth w i 0 ≡ 0) → (i s : ℕ) → worth_of (lots_of w) i s ≡ worth w (i - 1) s
worth-line w empty i s =
    elim (ℕ_discrete s 0) [
      | yes e ↦ rw e (sym (empty (i - 1)))
      | no e ↦ rw (ne_eqb s 0 e)
    ]

-- of an accepted sheet
module _ (b : List ℕ) (accepted : (sheet_fault b).number ≡ 0) where
  abbrev w : Sheet
  w = sheet_of b

  pub shape : Shape w
  shape = accepted_shape b accepted

  pub topped : Topped w.buyers w.lots w.worths
  topped i r s h =
      rw (worth-line w shape.empty i s, worth-line w shape.empty i (2 ^ w.lots - 1))
      (accepted_monotone b accepted (i - 1) s (2 ^ w.lots - 1) (omega arith) h (omega (arith, pow_some w.lots))
      (λ j l _. all_bits w.lots j shape.few_lots l))

  pub regular : Regular (lots_of w)
  regular =
      lots_regular w.buyers w.lots w.worths shape.few_buyers shape.few_lots
      (λ k. omega (arith, shape.small k)) topped
