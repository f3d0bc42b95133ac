-- What an input says: a pay table that fits, alone or with a section behind it (docs/FORMATS.md).
use Rattle.std.specs.Prelude.{◌≡◌, ◌↔◌, ℕ, Bool, true, nat_le, IsTrue, List, Result, Ok, Err, ◌⊎◌}
use Rattle.vp_card.specs.Cards.{in_order}
use Rattle.vp_text.specs.ExactReaders.{Reader}
use Rattle.vp_text.specs.Lines.{feed_of}
use Rattle.vp_text.specs.Reading.{fitting, nothing, whole}
use Rattle.vp_text.specs.Sections.{AcceptedInput, IsWhole, Misfit, RefusedInput, RefusedLine, Text}
use Rattle.vp_pay.specs.Deal.{AreDealtCards}
use Rattle.vp_pay.specs.Sections.{hand_at, table_at}
use Rattle.vp_pay.specs.Spelling.{deal_text, table_text}
use Rattle.vp_pay.specs.Table.{IsTable}
use Rattle.vp_pay.specs.declared.table.PayTable.{PayTable}

-- an input is taken exactly where it spells a value, and is refused exactly at its refused line
pub record AreRead {A : Type 0} (input : List ℕ → Result A ℕ) (Spelled : List ℕ → A → Type 0) (RefusedAt : List ℕ → ℕ → Type 0) : Type 0 where
  pub spelled : (bytes : List ℕ) (value : A) → input bytes ≡ Ok value ↔ Spelled bytes value
  pub refused : (bytes : List ℕ) (line : ℕ) → input bytes ≡ Err line ↔ RefusedAt bytes line

-- ---- which tables fit

-- every table fits
abbrev pub fits_all : PayTable → Bool
fits_all table = true

-- the table has a column for a bet of at least 1
abbrev pub has_bet : ℕ → PayTable → Bool
has_bet coin table = nat_le coin table.coins

-- ---- a pay table that fits, and nothing else

-- the table; else the line where the input is refused
unfoldable pub table_input : (PayTable → Bool) → List ℕ → Result (PayTable × Unit {0}) ℕ
table_input fits bytes = whole (fitting fits table_at (λ table. nothing)) (feed_of bytes)

-- the lines are the spelling of this table, which keeps the rules and fits, and nothing else
abbrev pub SpellsTable : (PayTable → Bool) → List ℕ → PayTable × Unit {0} → Type 0
SpellsTable fits bytes read = IsTable read.0 × IsTrue (fits read.0) × IsWhole table_text (feed_of bytes) read.0

-- the last line of a table that does not fit; else the first line with which the lines so far begin no table, or the one past the end
abbrev pub RefusesTable : (PayTable → Bool) → List ℕ → ℕ → Type 0
RefusesTable fits bytes line =
    Misfit table_text IsTable fits (feed_of bytes) line
    ⊎ (((other : ℕ) → Misfit table_text IsTable fits (feed_of bytes) other → ⊥) × RefusedLine table_text IsTable (feed_of bytes) line)

abbrev pub TablesAreRead : Type 0
TablesAreRead = (fits : PayTable → Bool) → AreRead (table_input fits) (SpellsTable fits) (RefusesTable fits)

-- ---- a pay table that fits, a section of its own behind it, and nothing else

-- the table, and what the reader makes of the section behind it; else the line where the input is refused
unfoldable pub section_input : {B : Type 0} → (PayTable → Bool) → (PayTable → Reader B) → List ℕ → Result (PayTable × B) ℕ
section_input fits reader bytes = whole (fitting fits table_at reader) (feed_of bytes)

-- the section is spelled so behind its table, and is seen so
abbrev pub SpellsSection : {B C : Type 0} → (PayTable → Bool) → (PayTable → C → Text) → (PayTable → C → Type 0) → (C → B) → List ℕ → PayTable × B → Type 0
SpellsSection {C = C} fits spell Valid see bytes read =
    (said : C) × AcceptedInput table_text IsTable fits spell Valid (feed_of bytes) (read.0, said) × (read.1 ≡ see said)

-- the refused line: the last line of a table that does not fit; else the first line with which the lines so far begin no table with a
-- section that is valid for it behind, or the one past the end
abbrev pub RefusesSection : {C : Type 0} → (PayTable → Bool) → (PayTable → C → Text) → (PayTable → C → Type 0) → List ℕ → ℕ → Type 0
RefusesSection fits spell Valid bytes line = RefusedInput table_text IsTable fits spell Valid (feed_of bytes) line

-- the section is a deal of the table's deck, seen in rising order
abbrev pub HandsAreRead : Type 0
HandsAreRead = (fits : PayTable → Bool) → AreRead (section_input fits (λ t. hand_at t.deck)) (SpellsSection fits (λ t. deal_text) (λ t. AreDealtCards t.deck) in_order) (RefusesSection fits (λ t. deal_text) (λ t. AreDealtCards t.deck))
