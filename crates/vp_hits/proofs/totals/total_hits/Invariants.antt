-- The classes so far were added up.
use Rattle.std.proofs.Common.{length}
use Rattle.vp_hits.specs.Hits.{printed_chance}
use Rattle.vp_suit.proofs.Weighed.{Added}
use Rattle.vp_hits.proofs.totals.total_hits.Given as goal

abbrev pub invariant-loop-class : goal.invariant-loop-class
invariant-loop-class l = Added l.game.table.deck (printed_chance l.game.table l.game.coin l.hits.line) l.classes l.total

abbrev pub decreases-loop-class : goal.decreases-loop-class
decreases-loop-class l = length l.classes
