-- The words of a pattern as they are put.
use Rattle.std.specs.Prelude.{ℕ, ◌+◌, List, ◌++◌}
use Rattle.vp_text.specs.Lines.{Word}
use Rattle.vp_lines.specs.Words.{words_of, word_room}
use Rattle.vp_pay.specs.declared.writing.PatternWords.{PatternWords}

-- one after another
abbrev pub four_words : PatternWords → List Word
four_words p = words_of p.key ++ (words_of p.first ++ (words_of p.kicker ++ words_of p.second))

-- the most bytes that they take
abbrev pub four_room : PatternWords → ℕ
four_room p = word_room p.key + (word_room p.first + (word_room p.kicker + word_room p.second))
