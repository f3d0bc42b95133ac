-- `hits`: what its input says, and what it prints. Input and text are this program's own (docs/FORMATS.md, `vpoker hits`).
use Rattle.std.specs.Prelude.{◌<◌, ℕ, ◌+◌, ◌-◌, ◌*◌, List, [], ◌∷◌, ◌++◌, length, Some, None, Result, codes, slice_index}
use Rattle.std.specs.Fmt.{decimal}
use Rattle.vp_text.specs.Lines.{Word}
use Rattle.vp_text.specs.Sections.{Text}
use Rattle.vp_text.specs.Written.{fraction, written}
use Rattle.vp_pay.specs.Bets.{Bet}
use Rattle.vp_pay.specs.Inputs.{AreRead, RefusesTable, SpellsTable, has_bet, table_input}
use Rattle.vp_pay.specs.declared.table.PayLine.{PayLine}
use Rattle.vp_pay.specs.declared.table.PayTable.{PayTable}
use Rattle.vp_draws.specs.Draws.{return_denominator, sum_of_best}
use Rattle.vp_count.specs.Table.{first_word}
use Rattle.vp_hits.specs.Hits.{often}
use Rattle.vp_answer.specs.Jobs.{Due, read_as}
use Rattle.vp_answer.proofs.SomeAnswers.{later_line}
use Rattle.vp_answer.specs.declared.stop.Stop.{Stop}

-- what an input of `hits` says: a pay table that has the bet, and nothing else; or the line where it is refused
abbrev pub hits_input : ℕ → List ℕ → Result (PayTable × Unit {0}) ℕ
hits_input coin = table_input (has_bet coin)

-- the line of a pay line: its name, what it pays, and how often it comes
abbrev pub hit_words : PayLine → ℕ → ℕ → ℕ → List Word
hit_words line coin many all =
    codes "hit" ∷ line.name ∷ decimal (slice_index line.pays (coin - 1)) ∷ fraction many all

-- the lines of pay lines, the first of which has this place
abbrev pub hit_lines : (ℕ → ℕ) → ℕ → ℕ → ℕ → List PayLine → Text
hit_lines many coin all place [] = []
hit_lines many coin all place (line ∷ lines) =
    hit_words line coin (many place) all ∷ hit_lines many coin all (place + 1) lines

-- the lines behind them: how often no line comes, and the return
abbrev pub end_lines : ℕ → ℕ → ℕ → ℕ → Text
end_lines none value all under =
    (codes "none" ∷ fraction none all) ∷ (codes "return" ∷ fraction value under) ∷ []

-- what `hits` prints: how often each line and none comes, over the number of deals times the common denominator, and the return
abbrev pub hits_lines : Bet → Text
hits_lines b =
    hit_lines (λ place. often b.table b.coin (Some place)) b.coin
    (return_denominator b.table.deck 1) 0 b.table.lines.items
    ++ end_lines (often b.table b.coin None) (sum_of_best b.table b.coin)
    (return_denominator b.table.deck 1) (return_denominator b.table.deck b.coin)

-- a table of sums and one for the masks of the printed holds, and the lines
abbrev pub hits_due : Bet → Due
hits_due b = record { words = 2 * first_word b.table.deck 6; text = written (hits_lines b) }

-- it has a line
abbrev pub hits_some : (b : Bet) → 0 < length (hits_due b).text
hits_some b = later_line _ _ _

-- what an input leaves to do
abbrev pub hits_job : ℕ → List ℕ → Result Bet Stop
hits_job coin bytes =
    read_as (λ read. record { table = read.0; coin = coin }) (hits_input coin bytes)

-- a pay table that has the bet
abbrev pub HitsInputsAreRead : Type 0
HitsInputsAreRead = (coin : ℕ)
    → AreRead (hits_input coin) (SpellsTable (has_bet coin)) (RefusesTable (has_bet coin))
