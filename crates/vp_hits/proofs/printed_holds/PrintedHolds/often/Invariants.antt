-- The classes so far were added up, and the masks of the others stand from the place on.
use Rattle.std.proofs.Common.{length}
use Rattle.vp_hits.specs.Hits.{printed_chance}
use Rattle.vp_hits.proofs.Masks.{MasksFrom}
use Rattle.vp_suit.proofs.Weighed.{Added}
use Rattle.vp_hits.proofs.printed_holds.PrintedHolds.often.Given as goal

abbrev pub invariant-loop-class : goal.invariant-loop-class
invariant-loop-class l = record {
  masks : MasksFrom l.self.table l.self.coin l.self.words l.place l.classes;
  one : Added l.self.table.deck (printed_chance l.self.table l.self.coin l.hits.first) l.classes l.one;
  other : Added l.self.table.deck (printed_chance l.self.table l.self.coin l.hits.second) l.classes l.other;
}

abbrev pub decreases-loop-class : goal.decreases-loop-class
decreases-loop-class l = length l.classes
