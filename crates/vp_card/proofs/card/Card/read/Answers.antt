use Rattle.std.proofs.Common.{ap, sym, ◌∙◌}
use Rattle.vp_card.specs.Reading.{card_of}
use Rattle.vp_card.proofs.Texts.{card_of-text, found_card}
use Rattle.vp_card.proofs.card.Card.read.Goals as goal

pub returns-clause-found : goal.returns-clause-found
returns-clause-found c = found_card _ _ c.card_of.ensures

pub returns-clause-only : goal.returns-clause-only
returns-clause-only c = λ card below text. c.card_of.ensures ∙ (ap card_of (sym text) ∙ card_of-text card below)
