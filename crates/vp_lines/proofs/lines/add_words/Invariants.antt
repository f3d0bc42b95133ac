use Rattle.std.proofs.Common.{◌≡◌, ◌≤◌, [], length, take}
use Rattle.vp_text.specs.Written.{with_words}
use Rattle.vp_lines.specs.Words.{line_words, room_of}
use Rattle.vp_lines.proofs.lines.add_words.Given as goal

abbrev pub invariant-loop-word : goal.invariant-loop-word
invariant-loop-word l = record {
  so_far : l.out ≡ with_words [] (line_words (take l.word-index l.words));
  room : length l.out ≤ room_of (take l.word-index l.words);
}
