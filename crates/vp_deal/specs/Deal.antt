-- `deal`: what its input says, and what it prints. Input and text are this program's own (docs/FORMATS.md, `vpoker deal`).
use Rattle.std.specs.Prelude.{◌≡◌, ◌<◌, ℕ, true, List, refl, [], ◌∷◌, ◌++◌, length, Result, codes, map}
use Rattle.std.specs.Fmt.{decimal}
use Rattle.vp_card.specs.Cards.{IsHand, held, in_deck, in_order}
use Rattle.vp_card.specs.Texts.{card_text}
use Rattle.vp_text.specs.Lines.{Word}
use Rattle.vp_text.specs.Sections.{Text}
use Rattle.vp_text.specs.Written.{fraction, written}
use Rattle.vp_pay.specs.Bets.{IsBet}
use Rattle.vp_pay.specs.Deal.{AreDealtCards}
use Rattle.vp_pay.specs.Sections.{hand_at}
use Rattle.vp_pay.specs.Spelling.{deal_text}
use Rattle.vp_pay.specs.declared.table.PayTable.{PayTable}
use Rattle.vp_sets.specs.Draws.{common}
use Rattle.vp_draws.specs.Draws.{best, least_best, ties, value}
use Rattle.vp_draws.specs.declared.best.Best.{Best}
use Rattle.vp_pay.specs.Inputs.{AreRead, RefusesSection, SpellsSection, has_bet, section_input}
use Rattle.vp_count.specs.Table.{first_word}
use Rattle.vp_answer.specs.Jobs.{Due, read_as}
use Rattle.vp_answer.proofs.SomeAnswers.{some_lines}
use Rattle.vp_answer.specs.declared.stop.Stop.{Stop}

-- what an input of `deal` says: a pay table that has the bet, then a hand from its deck, and nothing else; or the line where it is
-- refused
abbrev pub deal_input : ℕ → List ℕ → Result (PayTable × List ℕ) ℕ
deal_input coin bytes = section_input (has_bet coin) (λ table. hand_at table.deck) bytes

-- a bet on a pay table, and a hand
pub record Dealt : Type 0 where
  pub table : PayTable
  pub coin : ℕ
  pub hand : List ℕ

-- the hand is of the table's deck
pub record IsDealt (d : Dealt) : Type 0 where
  pub bet : IsBet d.table d.coin
  pub hand : IsHand d.hand
  pub deck : in_deck d.table.deck d.hand ≡ true

-- the lines of a hand, out of its best hold, the value of holding all five, and the number that values stand over: its cards, rising;
-- the best mask, the cards that it holds and its value; the value of holding all five; how many holds are as good
abbrev pub figure_lines : List ℕ → Best × ℕ × ℕ → Text
figure_lines hand (best, pat, under) =
    (codes "deal" ∷ map card_text hand) ∷
    (codes "best" ∷ decimal best.mask ∷ map card_text (held best.mask hand) ++ fraction best.value under) ∷
    (codes "pat" ∷ fraction pat under) ∷
    (codes "ties" ∷ decimal best.ties ∷ []) ∷ []

-- the least best hold of a hand, its value, and how many holds are as good
abbrev pub best_of : Dealt → Best
best_of d = record { mask = least_best d.table d.coin d.hand; value = best d.table d.coin d.hand; ties = ties d.table d.coin d.hand }

-- all values stand over the common denominator of the deck
unfoldable pub figures : Dealt → Best × ℕ × ℕ
figures d = (best_of d, value d.table d.coin d.hand 31, common d.table.deck)

-- what `deal` prints
abbrev pub deal_lines : Dealt → Text
deal_lines d = figure_lines d.hand (figures d)

-- a table of sums, and the four lines
abbrev pub deal_due : Dealt → Due
deal_due d = record { words = first_word d.table.deck 6; text = written (deal_lines d) }

-- it has a line
abbrev pub deal_some : (d : Dealt) → 0 < length (deal_due d).text
deal_some d = some_lines (deal_lines d) refl

-- what an input leaves to do
abbrev pub deal_job : ℕ → List ℕ → Result Dealt Stop
deal_job coin bytes = read_as (λ read. record { table = read.0; coin = coin; hand = read.1 }) (deal_input coin bytes)

-- a pay table that has the bet, and a deal of its deck, whose cards are seen in rising order
abbrev pub DealInputsAreRead : Type 0
DealInputsAreRead = (coin : ℕ)
    → AreRead (deal_input coin)
    (SpellsSection (has_bet coin) (λ t. deal_text) (λ t. AreDealtCards t.deck) in_order)
    (RefusesSection (has_bet coin) (λ t. deal_text) (λ t. AreDealtCards t.deck))
