use Rattle.vp_card.proofs.RankSets.{rank_set_text-same}
use Rattle.vp_card.proofs.rank_set.rank_set_texts_differ.Goals as goal

pub returns : goal.returns
returns c = rank_set_text-same
