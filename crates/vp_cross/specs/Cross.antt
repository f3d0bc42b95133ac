-- `cross`: what its input says, and what it prints. Input and text are this program's own (docs/FORMATS.md, `vpoker cross`).
use Rattle.std.specs.Prelude.{◌≡◌, ◌<◌, ℕ, ◌*◌, ◌-◌, Bool, ◌&&◌, ◌==◌, IsTrue, List, refl, [], ◌∷◌, ◌++◌, length, map, Option, None, Some, Result, codes, ◌⊎◌}
use Rattle.std.specs.Fmt.{decimal}
use Rattle.vp_card.specs.Texts.{card_text}
use Rattle.vp_text.specs.Lines.{feed_of}
use Rattle.vp_text.specs.Reading.{fitted}
use Rattle.vp_text.specs.Sections.{AreBoth, IsWhole, Misfit, RefusedLine, Text, both_text}
use Rattle.vp_text.specs.Written.{fraction, written}
use Rattle.vp_pay.specs.Bets.{IsBet}
use Rattle.vp_pay.specs.Inputs.{AreRead, has_bet, section_input}
use Rattle.vp_pay.specs.Sections.{table_at}
use Rattle.vp_pay.specs.Spelling.{table_text}
use Rattle.vp_pay.specs.Table.{IsTable}
use Rattle.vp_pay.specs.declared.table.PayTable.{PayTable}
use Rattle.vp_draws.specs.Draws.{return_denominator, sum_of_best}
use Rattle.vp_count.specs.Table.{first_word}
use Rattle.vp_cross.specs.Crossings.{costly_classes, costly_deals, sum_of_crossed, worst}
use Rattle.vp_cross.specs.declared.crossed.Crossed.{Crossed}
use Rattle.vp_cross.specs.declared.crossed.Worst.{Worst}
use Rattle.vp_answer.specs.Jobs.{Due, read_as}
use Rattle.vp_answer.proofs.SomeAnswers.{some_lines}
use Rattle.vp_answer.specs.declared.stop.Stop.{Stop}

-- the second table has the deck of the first, and a column for the bet
abbrev pub crosses : ℕ → PayTable → PayTable → Bool
crosses coin played priced = (priced.deck == played.deck) && has_bet coin priced

-- what an input of `cross` says: a pay table that has the bet, then a second one that fits it, and nothing else; or the line where it is
-- refused
abbrev pub cross_input : ℕ → List ℕ → Result (PayTable × PayTable) ℕ
cross_input coin = section_input (has_bet coin) (λ played. fitted (crosses coin played) table_at)

-- a pay table whose best play is priced by another, for a bet
pub record Crossing : Type 0 where
  pub played : PayTable
  pub priced : PayTable
  pub coin : ℕ

-- both have the bet, and they have one deck
pub record IsCrossing (c : Crossing) : Type 0 where
  pub played : IsBet c.played c.coin
  pub priced : IsBet c.priced c.coin
  pub deck : c.priced.deck ≡ c.played.deck

-- the class that costs most: its representative, the mask that is held, the second table's least best mask, and the cost
abbrev pub worst_words : Worst → List (List ℕ)
worst_words w =
    codes "worst" ∷ map card_text w.hand ++ decimal w.mask ∷ decimal w.best ∷ decimal w.cost ∷ []

-- the line of the class that costs most, where there is one
abbrev pub worst_lines : Option Worst → Text
worst_lines None = []
worst_lines (Some w) = worst_words w ∷ []

-- the sums over this denominator, and how many classes and deals cost something
abbrev pub total_lines : Crossed → ℕ → Text
total_lines c under =
    (codes "optimum" ∷ fraction c.optimum under) ∷
    (codes "cross" ∷ fraction c.value under) ∷
    (codes "loss" ∷ fraction (c.optimum - c.value) under) ∷
    (codes "differ" ∷ decimal c.classes ∷ decimal c.deals ∷ []) ∷ []

-- these lines, and that of the class that costs most
abbrev pub crossed_lines : Crossed → ℕ → Text
crossed_lines c under = total_lines c under ++ worst_lines c.worst

-- what the best play of the first table is worth on the second, over all deals
unfoldable pub crossed_of : Crossing → Crossed
crossed_of c = record {
  optimum = sum_of_best c.priced c.coin;
  value = sum_of_crossed c.played c.priced c.coin;
  classes = costly_classes c.played c.priced c.coin;
  deals = costly_deals c.played c.priced c.coin;
  worst = worst c.played c.priced c.coin;
}

-- what `cross` prints
abbrev pub cross_lines : Crossing → Text
cross_lines c = crossed_lines (crossed_of c) (return_denominator c.played.deck c.coin)

-- a table of sums for each pay table, and the lines
abbrev pub cross_due : Crossing → Due
cross_due c = record { words = 2 * first_word c.played.deck 6; text = written (cross_lines c) }

-- it has a line
abbrev pub cross_some : (c : Crossing) → 0 < length (cross_due c).text
cross_some c = some_lines (cross_lines c) refl

-- what an input leaves to do
abbrev pub cross_job : ℕ → List ℕ → Result Crossing Stop
cross_job coin bytes =
    read_as (λ read. record { played = read.0; priced = read.1; coin = coin }) (cross_input coin bytes)

-- ---- two pay tables, and nothing else

-- the spelling of one table, and then that of another
abbrev pub two_texts : PayTable × PayTable → Text
two_texts = both_text table_text (λ played. table_text)

-- both keep the rules of a pay table
abbrev pub AreTables : PayTable × PayTable → Type 0
AreTables = AreBoth IsTable (λ played. IsTable)

-- the lines are the spelling of these two tables, which keep the rules and fit, and nothing else
abbrev pub SpellsTables : ℕ → List ℕ → PayTable × PayTable → Type 0
SpellsTables coin bytes read =
    AreTables read × IsTrue (has_bet coin read.0) × IsTrue (crosses coin read.0 read.1)
    × IsWhole two_texts (feed_of bytes) read

-- the last line of a first table that does not have the bet
abbrev pub MisfitFirst : ℕ → List ℕ → ℕ → Type 0
MisfitFirst coin bytes line = Misfit table_text IsTable (has_bet coin) (feed_of bytes) line

-- the last line of two tables the second of which does not fit the first
abbrev pub MisfitSecond : ℕ → List ℕ → ℕ → Type 0
MisfitSecond coin bytes line =
    Misfit two_texts AreTables (λ read. crosses coin read.0 read.1) (feed_of bytes) line

-- there is no such line
abbrev pub IsNowhere : (ℕ → Type 0) → Type 0
IsNowhere Misfits = (line : ℕ) → Misfits line → ⊥

-- a first table that does not fit comes first, then a second one; else it is the first line with which the lines so far begin no two
-- tables, or the one past the end
abbrev pub RefusesTables : ℕ → List ℕ → ℕ → Type 0
RefusesTables coin bytes line =
    MisfitFirst coin bytes line
    ⊎ (IsNowhere (MisfitFirst coin bytes)
    × (MisfitSecond coin bytes line
    ⊎ (IsNowhere (MisfitSecond coin bytes)
    × RefusedLine two_texts AreTables (feed_of bytes) line)))

-- two pay tables of one deck, each of which has the bet
abbrev pub CrossInputsAreRead : Type 0
CrossInputsAreRead = (coin : ℕ)
    → AreRead (cross_input coin) (SpellsTables coin) (RefusesTables coin)
