-- What is promised of every log that is made: it is a log (vp_loggram, Logs), and breaks no law of its game (vp_replay, LawfulGames).
use Rattle.std.specs.Prelude.{◌≡◌, ℕ, ◌≤◌, List, [], length, Ok, None}
use Rattle.vp_text.specs.Lines.{Feed, feed_of}
use Rattle.vp_text.specs.Written.{written}
use Rattle.vp_pay.specs.declared.table.PayTable.{PayTable}
use Rattle.vp_loggram.specs.Logs.{IsLog, LogValue}
use Rattle.vp_loggram.specs.Sections.{log_at}
use Rattle.vp_loggram.specs.Spelling.{log_text}
use Rattle.vp_replay.specs.Rules.{break_in}
use Rattle.vp_replay.specs.Summaries.{AllBet}

-- the bytes are read as this log, with cards of a deck of n, and no line follows it
pub record IsReadAs (n : ℕ) (log : LogValue) (bytes : List ℕ) : Type 0 where
  pub left : Feed
  pub read : log_at n (feed_of bytes) ≡ Ok (log, left)
  pub end : left.lines ≡ []

-- a log of so many games, each for this bet, that is accepted: it is in the grammar, what is written of it is read as it is and fits an
-- input, and no game breaks a law of the table
pub record IsAccepted (table : PayTable) (coin games : ℕ) (log : LogValue) : Type 0 where
  pub count : length log.events ≡ games
  pub bets : AllBet coin log.events
  pub grammar : IsLog table.deck log
  pub read : IsReadAs table.deck log (written (log_text log))
  pub fits : length (written (log_text log)) ≤ 67108864
  pub lawful : break_in table log ≡ None
