-- What the direct way answers for every sheet (`direct_answer`).
use Rattle.std.specs.Prelude.{List, ℕ, replicate}
use Rattle.sheet.specs.declared.Fault.{Fault}
use Rattle.sheet.specs.Questions.{accepts, onward, sheet_fault}
use Rattle.offers.specs.Offers.{Offer, offer_of}
use Rattle.offers.specs.Rounds.{greatest_without, direct_owners, direct_payment}
use Rattle.offers.specs.Places.{four, per_buyer}
use Rattle.direct.specs.declared.Direct.{Direct}

-- rule 3.14: number and place, and zeros
unfoldable pub refused_direct : Fault → Direct
refused_direct f =
    record { number = f.number; place = f.place; total = 0; owners = replicate 4 0; payments = replicate 6 0 }

-- rule 5.11: the greatest total, its first list, the payments
unfoldable pub reckoned : Offer → Direct
reckoned O =
    record {
      number = 0;
      place = 0;
      total = greatest_without O 0;
      owners = four (direct_owners O);
      payments = per_buyer O.buyers (direct_payment O);
    }

unfoldable pub direct_answer : List ℕ → Direct
direct_answer b = let f = sheet_fault b in onward (accepts f) (λ _. reckoned (offer_of b)) (refused_direct f)
