-- `supply::Economies::covered` meets its contract. A set without the absent buyer covers those whose members are in it
-- or absent.
use Rattle.std.proofs.Common.{◌≡◌, true, ℕ, ◌+◌, ◌-◌, ◌^◌, ◌≤◌, ◌<◌, arith}
use lib.Pow.{pow_mono}
use Rattle.theory.specs.Coalitions.{inside}
use Rattle.owners.specs.Quick.{present_in, roster}
use Rattle.supply.proofs.Words.{covers_all, covers_but, inside-bit, bit_room}
use Rattle.supply.proofs.Economies.covered.Goals as goal

small : (m k : ℕ) → m ≤ 6 → k < 2 ^ m → k < 64
small m k few h = omega (arith, pow_mono {i = m} {j = 6} few)

room : (m e k r : ℕ) → m ≤ 6 → e ≤ m → k < 2 ^ m → inside (roster m) (present_in e) k ≡ true → (e ≡ 0 → ⊥) →
    r ≡ 2 ^ (e - 1) → k + r < 64
room m e k r few le h ins some er =
    omega (
      arith,
      bit_room k (e - 1) (small m k few h) (omega arith) (inside-bit m e k some le ins),
    )

pub subsets_of-requires : goal.subsets_of-requires
subsets_of-requires c = small c.args.self.buyers c.args.k c.args.self.few.0 c.requires.1

pub returns-then-economy-eq0 : goal.returns-then-economy-eq0
returns-then-economy-eq0 c =
    let a = c.args in
    let m = a.self.buyers in
    covers_all m a.economy a.k _ c.if-economy-eq0.true a.self.few.0 c.requires.1 c.subsets_of.ensures

pub subsets_of-requires-2 : goal.subsets_of-requires-2
subsets_of-requires-2 c =
    let a = c.args in
    let p = c.requires in
    room a.self.buyers a.economy a.k c.power.result a.self.few.0 p.0 p.1 p.2 c.if-economy-eq0.false c.power.ensures.is

pub returns : goal.returns
returns c =
    let a = c.args in
    let p = c.requires in
    covers_but a.self.buyers a.economy a.k _ a.self.few.0 p.1 c.if-economy-eq0.false p.0 p.2
    c.power.result c.power.ensures.is c.subsets_of-2.ensures
