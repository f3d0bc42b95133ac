use Rattle.vp_suit.proofs.Cards.{turn_first, turn_back}
use Rattle.vp_suit.proofs.Group.{inverse, inverse_inside}
use Rattle.vp_suit.proofs.Deals.{deal_rises, turned_deal}
use Rattle.vp_suit.proofs.ClassLaws.{representative_kept}
use Rattle.vp_suit.proofs.Representatives.{weight_kept}
use Rattle.vp_suit.proofs.laws.turn_laws.Goals as goal

pub returns-clause-deal : goal.returns-clause-deal
returns-clause-deal c n t cards big l d = turned_deal n t cards big l d

pub returns-clause-first : goal.returns-clause-first
returns-clause-first c n cards d = turn_first cards (deal_rises n cards d)

pub returns-clause-representative : goal.returns-clause-representative
returns-clause-representative c n t cards big l d = representative_kept n cards t big d l

pub returns-clause-weight : goal.returns-clause-weight
returns-clause-weight c n t cards big l d = weight_kept n cards t big d l

pub returns-clause-back : goal.returns-clause-back
returns-clause-back c t l = (inverse t, inverse_inside t l, λ n cards d. turn_back t cards l (deal_rises n cards d))
