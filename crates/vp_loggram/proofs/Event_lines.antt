-- The words of a game that were put into a line are the line that a log has.
use Rattle.std.proofs.Common.{◌≡◌, ◌++◌, ◌∷◌, [], List, ℕ, arith}
use Rattle.std.specs.Prelude.{codes}
use Rattle.std.specs.Fmt.{decimal}
use Rattle.vp_text.specs.Lines.{Word}
use Rattle.vp_text.specs.Written.{with_word, with_words, line_of}
use Rattle.vp_text.proofs.WithWords.{line_bytes}
use Rattle.vp_loggram.specs.Spelling.{event_words, key_cards, key_number}
use Rattle.vp_loggram.specs.declared.event.Event.{Event}

-- the words of a game behind the first
abbrev pub words_behind : Event → List Word
words_behind e =
    decimal e.bet ∷ (key_cards (codes "deal") e.deal ++ (key_cards (codes "hold") e.hold.items ++ (key_cards (codes "draw") e.draw.items
    ++ (key_number (codes "pay") e.pay ++ key_number (codes "credits") e.credits))))

pub event_line : (e : Event) → with_words [] (event_words e) ++ 10 ∷ [] ≡ line_of (event_words e)
unfolding event_words
event_line e = line_bytes (codes "game") (words_behind e) (omega arith)

-- the words of the first line are its bytes
pub first_line : (start : ℕ) → with_word (with_word [] (codes "log")) (decimal start) ++ 10 ∷ [] ≡ line_of (key_number (codes "log") start)
first_line start = line_bytes (codes "log") (decimal start ∷ []) (omega arith)
