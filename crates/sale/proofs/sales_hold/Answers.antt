-- `sale::sales_hold` meets its contract.
use Rattle.offers.proofs.House.{house_sales}
use Rattle.sale.proofs.Claimed.{sales_hold, one_answer, settled_answers}
use Rattle.sale.proofs.sales_hold.Goals as goal

pub returns : goal.returns
returns c = (sales_hold, one_answer, settled_answers, house_sales)
