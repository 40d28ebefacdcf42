-- `rounds::Terms::round` meets its contract.
use Rattle.std.proofs.Common.{sym}
use Rattle.supply.proofs.Keeping.{lowest_below, lowest_keens}
use Rattle.rounds.proofs.Turning.{turn_none, turn_some}
use Rattle.rounds.proofs.Terms.round.Goals as goal

pub returns-in_default : goal.returns-in_default
returns-in_default c =
    let a = c.args in
    let E = a.self.now.economies in
    let V = a.self.now.valuations in
    turn_none E.buyers E.last V.bundles E.few.0 a.self.now.two V.whole.1 V.worths.now a.prices.now a.kept.now
    c.supplied-words.result c.supplied-words.ensures a.rest.now c.in_default.ensures.is

pub lower_payoffs-requires : goal.lower_payoffs-requires
lower_payoffs-requires c =
    let a = c.args in
    let E = a.self.now.economies in
    let small = c.requires.2 in (
      E.few.0,
      small.payoffs,
      lowest_keens E.buyers E.last c.supplied-words.result a.kept.now.payoffs _ (sym c.in-Some.ensures.is),
    )

pub raise_gains-requires : goal.raise_gains-requires
raise_gains-requires c =
    let a = c.args in
    let E = a.self.now.economies in
    let small = c.requires.2 in (
      E.few.0,
      lowest_below E.buyers E.last c.supplied-words.result a.kept.now.payoffs _ (sym c.in-Some.ensures.is),
      small.gains,
    )

pub raise_revenues-requires : goal.raise_revenues-requires
raise_revenues-requires c =
    let a = c.args in
    let E = a.self.now.economies in
    let small = c.requires.2 in (
      lowest_below E.buyers E.last c.supplied-words.result a.kept.now.payoffs _ (sym c.in-Some.ensures.is),
      small.revenues,
    )

pub returns : goal.returns
returns c =
    let a = c.args in
    let E = a.self.now.economies in
    let V = a.self.now.valuations in
    turn_some E.buyers E.last V.bundles E.few.0 a.self.now.two V.whole.1 V.worths.now a.prices.now a.kept.now
    c.supplied-words.result c.supplied-words.ensures c.in-Some.set c.in-Some.ensures.is a.rest.now _ _
    (record {
      payoffs = c.lower_payoffs.new.payoffs;
      gains = c.raise_gains.new.gains;
      revenues = c.raise_revenues.new.revenues;
    })
    c.note.ensures c.raise.ensures
    c.lower_payoffs.ensures.1 c.lower_payoffs.ensures.2 c.raise_gains.ensures.1
    c.raise_revenues.ensures.1
