use Rattle.std.proofs.Common.{◌≡◌, length}
use Rattle.vp_text.specs.Sections.{Leaves}
use Rattle.vp_text.specs.Streams.{folded_at}
use Rattle.vp_rule.specs.Kept.{step_behind}
use Rattle.vp_rule.specs.Reading.{nothing_yet}
use Rattle.vp_rule.proofs.reading.list_rules.Given as goal

abbrev pub invariant-loop-words : goal.invariant-loop-words
invariant-loop-words l = record {
  so_far : folded_at (step_behind l.version l.table) l.lines.lines l.lines.past (record { last = l.last; rules = l.rules.items })
      ≡ folded_at (step_behind l.version l.table) l.fn.lines.lines l.fn.lines.past nothing_yet;
  past : l.lines.past ≡ l.fn.lines.past;
  leaves : Leaves l.fn.lines l.lines;
}

abbrev pub decreases-loop-words : goal.decreases-loop-words
decreases-loop-words l = length l.lines.lines
