use Rattle.std.proofs.Common.{◌≡◌, [], length}
use Rattle.vp_text.specs.Reading.{rows_at}
use Rattle.vp_text.specs.Sections.{Leaves}
use Rattle.vp_pay.specs.Sections.{row_of}
use Rattle.vp_pay.proofs.reading.pay_lines.Given as goal

abbrev pub invariant-loop-words : goal.invariant-loop-words
invariant-loop-words l = record {
  so_far : rows_at (row_of l.coins) l.lines.lines l.lines.past l.pay_lines.items ≡ rows_at (row_of l.coins) l.fn.lines.lines l.fn.lines.past [];
  past : l.lines.past ≡ l.fn.lines.past;
  leaves : Leaves l.fn.lines l.lines;
}

abbrev pub decreases-loop-words : goal.decreases-loop-words
decreases-loop-words l = length l.lines.lines
