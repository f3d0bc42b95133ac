use Rattle.std.proofs.Common.{◌≡◌, ◌*◌, ◌^◌, ◌≤◌, length}
use Rattle.vp_suit.specs.Classes.{representatives}
use Rattle.vp_check.specs.Listing.{counted_at, none_listed}
use Rattle.vp_check.proofs.reading.class_lines.Given as goal

abbrev pub invariant-loop-words : goal.invariant-loop-words
invariant-loop-words l = record {
  most : l.most ≡ length (representatives l.fn.deck);
  so_far : counted_at l.deck l.lines.lines l.lines.past l.listed ≡ counted_at l.deck l.fn.lines.lines l.fn.lines.past none_listed;
  past : l.lines.past ≡ l.fn.lines.past;
  weights : l.listed.weights ≤ 256 * l.listed.lines;
  values : l.listed.values ≤ 2 ^ 72 * l.listed.lines;
}

abbrev pub decreases-loop-words : goal.decreases-loop-words
decreases-loop-words l = length l.lines.lines
