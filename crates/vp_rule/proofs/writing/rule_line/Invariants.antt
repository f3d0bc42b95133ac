use Rattle.std.proofs.Common.{◌≡◌, ◌+◌, ◌*◌, ◌≤◌, ◌∷◌, length, take, codes}
use Rattle.std.specs.Prelude.{flat_map}
use Rattle.vp_lines.specs.Words.{HasStart, line_words, room_of}
use Rattle.vp_rule.specs.Spelling.{test_words}
use Rattle.vp_rule.proofs.writing.rule_line.Given as goal

abbrev pub invariant-loop-test : goal.invariant-loop-test
invariant-loop-test l = record {
  start : HasStart l.words.items;
  spelled : line_words l.words.items ≡ codes "rule" ∷ flat_map (test_words l.table) (take l.test-index l.rule.tests.items);
  length : length l.words.items ≡ 1 + 4 * l.test-index;
  room : room_of l.words.items ≤ 5 + 30 * l.test-index;
}
