-- The one spelling of a record, behind the header row. It is this program's own (docs/FORMATS.md, Logs of many sessions).
use Rattle.std.specs.Prelude.{ℕ, List, [], ◌∷◌, map, codes}
use Rattle.std.specs.Fmt.{decimal}
use Rattle.vp_card.specs.Texts.{card_text}
use Rattle.vp_text.specs.Written.{spaced}
use Rattle.vp_loggram.specs.declared.event.Event.{Event}
use Rattle.vp_csv.specs.Records.{Field, Record}

-- the first record
abbrev pub header : Record
header = codes "session" ∷ codes "bet" ∷ codes "deal" ∷ codes "hold" ∷ codes "draw" ∷ codes "pay" ∷ codes "credits" ∷ []

-- cards with one space between
abbrev pub cards_field : List ℕ → Field
cards_field cards = spaced (map card_text cards)

-- the fields behind the name in a record that opens a session with so many credits
abbrev pub opening_fields : ℕ → List Field
opening_fields start = [] ∷ [] ∷ [] ∷ [] ∷ [] ∷ decimal start ∷ []

-- the fields behind the name in the record of a game
abbrev pub game_fields : Event → List Field
game_fields e =
    decimal e.bet ∷ cards_field e.deal ∷ cards_field e.hold.items ∷ cards_field e.draw.items ∷ decimal e.pay ∷ decimal e.credits ∷ []
