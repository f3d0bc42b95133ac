-- The seven fields of a record, and how cards stand in a field: their texts, with one space between. The fields are this program's own
-- (docs/FORMATS.md, Logs of many sessions).
use Rattle.std.specs.Prelude.{ℕ, ◌==◌, ◌&&◌, nat_lt, length, List, [], ◌∷◌, ◌++◌, Option, Some, None, if◌then◌else◌}
use Rattle.vp_card.specs.Reading.{card_of}
use Rattle.vp_text.specs.Pieces.{◌>>=◌}
use Rattle.vp_csv.specs.Records.{Field, Record}

-- the fields of a record of seven, each by its name in the header
pub record Row : Type 0 where
  pub session : Field
  pub bet : Field
  pub deal : Field
  pub hold : Field
  pub draw : Field
  pub pay : Field
  pub credits : Field

abbrev pub row_of : Record → Option Row
row_of (a ∷ b ∷ c ∷ d ∷ e ∷ f ∷ g ∷ []) = Some (record { session = a; bet = b; deal = c; hold = d; draw = e; pay = f; credits = g })
row_of _ = None

-- at most five cards, behind these: two bytes each, and a space before each
unfoldable pub more_cards : List ℕ → Field → Option (List ℕ)
more_cards cards [] = Some cards
more_cards cards (a ∷ []) = None
more_cards cards (a ∷ b ∷ []) = None
more_cards cards (s ∷ a ∷ b ∷ rest) = if s == 32 && nat_lt (length cards) 5 then (do
  card ← card_of (a ∷ b ∷ [])
  more_cards (cards ++ card ∷ []) rest) else None

-- the cards of a field, none where it is empty
unfoldable pub cards_of : Field → Option (List ℕ)
cards_of [] = Some []
cards_of (a ∷ rest) = more_cards [] (32 ∷ a ∷ rest)

-- five cards
abbrev pub five_of : List ℕ → Option (List ℕ)
five_of cards = if length cards == 5 then Some cards else None
