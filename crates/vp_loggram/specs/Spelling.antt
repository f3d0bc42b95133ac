-- The one spelling of a log. Its lines and key words are this program's own (docs/FORMATS.md).
use Rattle.std.specs.Prelude.{ℕ, List, [], ◌∷◌, ◌++◌, map, codes}
use Rattle.std.specs.Fmt.{decimal}
use Rattle.vp_card.specs.Texts.{card_text}
use Rattle.vp_text.specs.Lines.{Word}
use Rattle.vp_text.specs.Sections.{Text}
use Rattle.vp_loggram.specs.Logs.{LogValue}
use Rattle.vp_loggram.specs.declared.event.Event.{Event}

-- a word, and the texts of cards
abbrev pub key_cards : Word → List ℕ → List Word
key_cards key cards = key ∷ map card_text cards

-- a word, and a number
abbrev pub key_number : Word → ℕ → List Word
key_number key number = key ∷ decimal number ∷ []

-- a game: the bet, the dealt, held and drawn cards, the payment, and the credits behind it
unfoldable pub event_words : Event → List Word
event_words e =
    key_number (codes "game") e.bet ++ (key_cards (codes "deal") e.deal ++ (key_cards (codes "hold") e.hold.items ++ (key_cards (codes "draw") e.draw.items
    ++ (key_number (codes "pay") e.pay ++ key_number (codes "credits") e.credits))))

-- a log: the credits at its start, its games in their order, and `end`
unfoldable pub log_text : LogValue → Text
log_text log = key_number (codes "log") log.start ∷ map event_words log.events ++ (codes "end" ∷ []) ∷ []
