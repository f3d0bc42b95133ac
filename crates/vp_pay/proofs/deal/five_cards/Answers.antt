use Rattle.vp_pay.proofs.Deals.{five_exactly}
use Rattle.vp_pay.proofs.deal.five_cards.Goals as goal

pub returns-clause-exactly : goal.returns-clause-exactly
returns-clause-exactly c = five_exactly _ _ _ c.cards.ensures.takes
