use Rattle.std.proofs.Common.{ap, sym, ◌∙◌}
use Rattle.vp_card.specs.Reading.{rank_set_of}
use Rattle.vp_card.proofs.RankSets.{rank_set_of-text, found_rank_set}
use Rattle.vp_card.proofs.rank_set.RankSet.read.Goals as goal

pub returns-clause-found : goal.returns-clause-found
returns-clause-found c = found_rank_set _ _ c.rank_set_of.ensures

pub returns-clause-only : goal.returns-clause-only
returns-clause-only c = λ set is_set text. c.rank_set_of.ensures ∙ (ap rank_set_of (sym text) ∙ rank_set_of-text set is_set)
