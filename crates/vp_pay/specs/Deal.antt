-- What a deal is, and what readers of cards and of deals find. A deal is five different cards, as dealers state it; its line is this
-- program's own (docs/FORMATS.md).
use Rattle.std.specs.Prelude.{◌≡◌, ◌<◌, ℕ, true, List, ◌++◌, length, Option, Some, IfSome}
use Rattle.vp_card.specs.Cards.{in_deck, all_differ, in_order}
use Rattle.vp_text.specs.Lines.{Feed, Word}
use Rattle.vp_text.specs.Sections.{Starts}
use Rattle.vp_pay.specs.Spelling.{deal_text}

-- ---- cards in the words of a line

-- Words are taken from the front exactly where they spell a valid value: what is taken stood there, and a valid value that stands there is taken.
pub record TakesExactly {A : Type 0} (spell : A → List Word) (Valid : A → Type 0) (before : List Word) (result : Option A) (left : List Word) : Type 0 where
  pub found : IfSome result (λ value. Valid value × (before ≡ spell value ++ left))
  pub only : (value : A) (rest : List Word) → Valid value → before ≡ spell value ++ rest → (result ≡ Some value) × (left ≡ rest)

-- the number of one of the natural cards or of a joker
abbrev pub IsCard : ℕ → Type 0
IsCard card = card < 54

-- five cards, in any order, of which some may be equal
pub record AreFiveCards (cards : List ℕ) : Type 0 where
  pub five : length cards ≡ 5
  pub below : in_deck 54 cards ≡ true

-- ---- deals

-- five different cards of a deck of n, in any order
pub record AreDealtCards (n : ℕ) (cards : List ℕ) : Type 0 where
  pub five : length cards ≡ 5
  pub below : in_deck n cards ≡ true
  pub differ : all_differ cards ≡ true

-- a deal stands in front of the lines that are left, and this is its hand
pub record IsDealt (n : ℕ) (before : Feed) (found : List ℕ) (left : Feed) : Type 0 where
  pub cards : List ℕ
  pub deal : AreDealtCards n cards
  pub front : Starts deal_text before cards left
  pub hand : found ≡ in_order cards
