use Rattle.vp_pay.proofs.Deals.{card_exactly}
use Rattle.vp_pay.proofs.deal.next_card.Goals as goal

pub returns-clause-exactly : goal.returns-clause-exactly
returns-clause-exactly c = card_exactly _ _ _ c.card.ensures.takes
