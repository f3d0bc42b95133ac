use Rattle.vp_text.proofs.Standing.{stands_refused}
use Rattle.vp_pay.proofs.Deals.{dealt_of_deck, found_deal, refused_deal, only_deal}
use Rattle.vp_pay.proofs.deal.read_deal.Goals as goal

pub returns-clause-found : goal.returns-clause-found
returns-clause-found c = found_deal _ _ _ _ c.requires c.hand_at.ensures.read

pub returns-clause-of_deck : goal.returns-clause-of_deck
returns-clause-of_deck c = dealt_of_deck _ _ _ _ (found_deal _ _ _ _ c.requires c.hand_at.ensures.read)

pub returns-clause-only : goal.returns-clause-only
returns-clause-only c = only_deal _ _ _ _ c.requires c.hand_at.ensures.read

pub returns-clause-refused : goal.returns-clause-refused
returns-clause-refused c = refused_deal _ _ _ _ c.requires c.hand_at.ensures.read

pub returns-clause-stands : goal.returns-clause-stands
returns-clause-stands c = stands_refused _ _ _ c.hand_at.ensures.leaves c.hand_at.ensures.at
