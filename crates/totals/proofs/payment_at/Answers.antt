-- `totals::payment_at` meets its contract.
use Rattle.std.proofs.Common.{◌≡◌, ◌+◌, ◌-◌, sym, ap, ◌∙◌, get_or, arith}
use Rattle.owners.specs.Prices.{entry}
use Rattle.offers.proofs.Places.{place_taken}
use Rattle.lists.specs.Words.{digit}
use Rattle.totals.specs.Totals.{word_payment}
use Rattle.totals.proofs.payment_at.Goals as goal

pub returns : goal.returns
returns c =
    let z = c.args in
    let t = z.table.now in
    let own : c.entry-own.result ≡ entry t.numbers.now (z.k + 1) (digit (z.k + 1) z.word) =
    c.entry-own.ensures.is ∙ ap (entry t.numbers.now (z.k + 1)) c.digit_of.ensures.is in
    c.saturating_sub.ensures ∙ ap (λ x. get_or z.greatest (z.k + 1) 0 + x - get_or z.greatest 0 0) own
    ∙ sym (place_taken t.bidders.buyers (word_payment z.greatest t.numbers.now z.word) z.k (omega arith))
