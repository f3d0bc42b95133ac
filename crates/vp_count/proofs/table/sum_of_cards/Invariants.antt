use Rattle.std.proofs.Common.{◌≡◌, ◌-◌}
use Rattle.vp_count.specs.Table.{words_of_cards}
use Rattle.vp_count.proofs.table.sum_of_cards.Given as goal

abbrev pub invariant-loop-card : goal.invariant-loop-card
invariant-loop-card l = l.total ≡ words_of_cards l.words l.first l.size l.low (l.card - l.low)
