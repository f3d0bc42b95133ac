-- `play`: what its input says, what it leaves to do, and what it prints. Input and text are this program's own (docs/FORMATS.md,
-- `vpoker play`).
use Rattle.std.specs.Prelude.{ℕ, ◌+◌, ◌*◌, ◌<◌, ◌≤◌, List, [], ◌∷◌, length, Result, codes, refl}
use Rattle.std.specs.Fmt.{decimal}
use Rattle.vp_text.specs.Sections.{Text}
use Rattle.vp_text.specs.Written.{written}
use Rattle.vp_pay.specs.Bets.{IsBet}
use Rattle.vp_pay.specs.Inputs.{AreRead, RefusesTable, SpellsTable, has_bet, table_input}
use Rattle.vp_pay.specs.declared.table.PayTable.{PayTable}
use Rattle.vp_count.specs.Table.{first_word}
use Rattle.vp_loggram.specs.Logs.{LogValue}
use Rattle.vp_replay.specs.Summaries.{summary_lines, summary_of}
use Rattle.vp_replay.specs.declared.summary.Summary.{Summary}
use Rattle.vp_gen.specs.Generator.{generated}
use Rattle.vp_answer.specs.Jobs.{DueOf, read_as}
use Rattle.vp_answer.proofs.SomeAnswers.{some_lines}
use Rattle.vp_answer.specs.declared.ending.Ending.TheVariants.{Done}
use Rattle.vp_answer.specs.declared.stop.Stop.{Stop}

-- what an input of `play` says: a pay table that has the bet, and nothing else; or the line where it is refused
abbrev pub play_input : ℕ → List ℕ → Result (PayTable × Unit {0}) ℕ
play_input coin bytes = table_input (has_bet coin) bytes

-- a bet on a pay table, the seed of a log, and how many games it has
pub record Played : Type 0 where
  pub table : PayTable
  pub coin : ℕ
  pub seed : ℕ
  pub games : ℕ

-- the pay table has the bet, and there are 1 to 100000 games
pub record IsPlayed (p : Played) : Type 0 where
  pub bet : IsBet p.table p.coin
  pub some : 1 ≤ p.games
  pub most : p.games ≤ 100000

-- the log that is made
abbrev pub log_of : Played → LogValue
log_of p = generated p.table p.coin p.seed p.games

-- a seed and a number of games, and the lines of the numbers of a log with cards of a deck of n, which `replay` prints behind those of
-- the costs
abbrev pub played_lines : ℕ → ℕ → ℕ → Summary → Text
played_lines n seed games s = (codes "play" ∷ decimal seed ∷ decimal games ∷ []) ∷ summary_lines n s

-- what `play` prints
abbrev pub play_lines : Played → Text
play_lines p = played_lines p.table.deck p.seed p.games (summary_of p.table (log_of p))

-- as many words as a table of sums for each bet, and one more, and the lines of the log that is made
abbrev pub play_due : Played → DueOf
play_due p = record { words = (p.table.coins + 1) * first_word p.table.deck 6; said = record { ending = Done; text = written (play_lines p) } }

-- it has a line
abbrev pub play_some : (p : Played) → 0 < length (play_due p).said.text
play_some p = some_lines (play_lines p) refl

-- what an input leaves to do for a bet, a seed and a number of games
abbrev pub play_job : ℕ → ℕ → ℕ → List ℕ → Result Played Stop
play_job coin seed games bytes = read_as (λ read. record { table = read.0; coin = coin; seed = seed; games = games }) (play_input coin bytes)

-- a pay table that has the bet
abbrev pub PlayInputsAreRead : Type 0
PlayInputsAreRead = (coin : ℕ) → AreRead (play_input coin) (SpellsTable (has_bet coin)) (RefusesTable (has_bet coin))
