use Rattle.std.proofs.Common.{◌≡◌, ◌+◌, ◌≤◌, length}
use Rattle.vp_text.specs.Lines.{lines_in, numbered, behind_line}
use Rattle.vp_text.proofs.lines.Lines.next.Given as goal

abbrev pub invariant-lines : goal.invariant-lines
invariant-lines l = record {
  bound : l.self-inside.count + length l.self-inside.rest.now ≤ 67108864;
  lines : numbered (l.self-inside.count + 1) (lines_in l.self-inside.rest.now) ≡ l.fn.self.lines;
  past : length (lines_in l.self-inside.rest.now) + l.self-inside.count + 1 ≡ l.fn.self.past.line;
  text : l.self-inside.text.now ≡ l.fn.self.past.bytes;
  rest : behind_line l.self-inside.count l.self-inside.text.now ≡ l.self-inside.rest.now;
  last : l.self-inside.last ≡ l.fn.self.last;
}

abbrev pub decreases-lines : goal.decreases-lines
decreases-lines l = length l.self-inside.rest.now
