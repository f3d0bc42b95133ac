use Rattle.std.proofs.Common.{◌≡◌, ◌-◌, length}
use Rattle.vp_text.specs.Pieces.{ahead, up_to_end}
use Rattle.vp_rule.specs.Reading.{test_behind}
use Rattle.vp_rule.proofs.rule_words.tests.Given as goal

abbrev pub invariant-loop-word : goal.invariant-loop-word
invariant-loop-word l = record {
  so_far : ahead 8 (test_behind l.version l.table) l.tests.items l.words.words ≡ up_to_end 8 (test_behind l.version l.table) l.fn.words.words;
}

abbrev pub decreases-loop-word : goal.decreases-loop-word
decreases-loop-word l = 8 - length l.tests.items
