use Rattle.vp_card.proofs.Texts.{card_text-same}
use Rattle.vp_card.proofs.card.card_texts_differ.Goals as goal

pub returns : goal.returns
returns c = card_text-same
