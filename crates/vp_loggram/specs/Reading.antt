-- How a game of a log is read from left to right.
use Rattle.std.specs.Prelude.{ℕ, List, [], Option, option_map, codes}
use Rattle.vp_card.specs.Reading.{card_of}
use Rattle.vp_text.specs.Lines.{Word}
use Rattle.vp_text.specs.Numbers.{number_of}
use Rattle.vp_text.specs.Pieces.{Piece, one_word, so_many, up_to}
use Rattle.vp_text.specs.Sequences.{◌>>◌, after, all_of}
use Rattle.vp_text.specs.Streams.{passing}
use Rattle.vp_loggram.specs.Logs.{is_of_deck}
use Rattle.vp_loggram.specs.declared.event.Event.{Event}

-- cards, at most five, up to this word
unfoldable pub cards_up_to : Word → Piece (List ℕ)
cards_up_to key = up_to card_of 5 key []

-- the bet, the dealt, held and drawn cards, the payment, and the credits
abbrev pub EventParts : Type 0
EventParts = ℕ × (List ℕ × (List ℕ × (List ℕ × (ℕ × ℕ))))

abbrev pub event_from : EventParts → Event
event_from p = record { bet = p.0; deal = p.1.0; hold = record { items = p.1.1.0 }; draw = record { items = p.1.1.1.0 }; pay = p.1.1.1.1.0; credits = p.1.1.1.1.1 }

abbrev pub event_parts : Piece EventParts
event_parts =
    after (codes "game") (one_word number_of)
    >> after (codes "deal") (so_many card_of 5)
    >> after (codes "hold") (cards_up_to (codes "draw"))
    >> cards_up_to (codes "pay")
    >> one_word number_of
    >> after (codes "credits") (one_word number_of)

-- a game with cards of a deck of n
unfoldable pub event_of : ℕ → List Word → Option Event
event_of n words = passing (is_of_deck n) (option_map event_from (all_of event_parts words))
