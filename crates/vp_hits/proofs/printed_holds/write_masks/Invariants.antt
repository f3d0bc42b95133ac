-- The classes so far have their masks, and their values were added up.
use Rattle.std.proofs.Common.{length}
use Rattle.vp_draws.specs.Draws.{best}
use Rattle.vp_hits.proofs.Masks.{MasksBelow}
use Rattle.vp_suit.proofs.Weighed.{Added}
use Rattle.vp_hits.proofs.printed_holds.write_masks.Given as goal

abbrev pub invariant-loop-class : goal.invariant-loop-class
invariant-loop-class l = record {
  masks : MasksBelow l.game.table l.game.coin l.masks l.place l.classes;
  sum : Added l.game.table.deck (best l.game.table l.game.coin) l.classes l.sum;
}

abbrev pub decreases-loop-class : goal.decreases-loop-class
decreases-loop-class l = length l.classes
