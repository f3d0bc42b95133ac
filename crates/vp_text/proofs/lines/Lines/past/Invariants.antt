use Rattle.std.proofs.Common.{◌≡◌, ◌+◌, ◌≤◌, length}
use Rattle.vp_text.specs.Lines.{lines_in}
use Rattle.vp_text.proofs.lines.Lines.past.Given as goal

abbrev pub invariant-loop-rest : goal.invariant-loop-rest
invariant-loop-rest l = record {
  bound : l.count + length l.rest ≤ 67108864;
  past : length (lines_in l.rest) + l.count + 1 ≡ l.self.past.line;
}

abbrev pub decreases-loop-rest : goal.decreases-loop-rest
decreases-loop-rest l = length l.rest
