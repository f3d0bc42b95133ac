use Rattle.vp_suit.proofs.Deals.{deal_rises}
use Rattle.vp_suit.proofs.Masks.{carried_small, held_carried, discarded_carried}
use Rattle.vp_suit.proofs.TurnedDraws.{draws_turned}
use Rattle.vp_suit.proofs.laws.carry_laws.Goals as goal

pub returns-clause-mask : goal.returns-clause-mask
returns-clause-mask c n t mask cards d = carried_small t mask cards d.five

pub returns-clause-held : goal.returns-clause-held
returns-clause-held c n t mask cards l d = held_carried t mask cards l (deal_rises n cards d)

pub returns-clause-discarded : goal.returns-clause-discarded
returns-clause-discarded c n t mask cards l d = discarded_carried t mask cards l (deal_rises n cards d)

pub returns-clause-draws : goal.returns-clause-draws
returns-clause-draws c n t mask f cards big l d kept = draws_turned f n t mask cards big l d kept
