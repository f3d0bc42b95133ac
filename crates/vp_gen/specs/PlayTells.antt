-- What the answer of `play` tells.
use Rattle.std.specs.Prelude.{◌≡◌, ℕ, ◌≤◌, List, length, Ok}
use Rattle.vp_text.specs.Written.{written}
use Rattle.vp_pay.specs.declared.table.PayTable.{PayTable}
use Rattle.vp_replay.specs.Replay.{log_file, replay_due, replay_job}
use Rattle.vp_replay.specs.Summaries.{replay_lines}
use Rattle.vp_gen.specs.Play.{Played, log_of, play_due, play_input, play_lines}
use Rattle.vp_gen.specs.Promises.{IsAccepted}
use Rattle.vp_answer.specs.Answers.{Answer, answer_of}
use Rattle.vp_answer.specs.declared.status.Status.TheVariants.{Done}

-- what is written of the pay table and the log is an input of `replay`, short enough to be read. No game breaks a law, and the text
-- is the lines of the costs, and behind them the lines of the numbers, which are those of `play`
pub record IsReplayed (p : Played) : Type 0 where
  pub short : length (log_file p.table (log_of p)) ≤ 67108864
  pub job : replay_job (log_file p.table (log_of p)) ≡ Ok (record { table = p.table; log = log_of p })
  pub text : (replay_due (record { table = p.table; log = log_of p })).text ≡ written (replay_lines p.table (log_of p))

-- the answer is the seed, the number of games and the lines of the numbers of a log of so many games for this bet, which is in the grammar
-- and breaks no law, and `replay` answers it with the same numbers
pub record TellsPlay (p : Played) (due : Answer) : Type 0 where
  pub status : due.status ≡ Done
  pub text : due.text ≡ written (play_lines p)
  pub accepted : IsAccepted p.table p.coin p.games (log_of p)
  pub replayed : IsReplayed p

-- the answer of `play` to each pay table that it takes
abbrev pub PlaysAreReplayed : Type 0
PlaysAreReplayed = (coin seed games : ℕ) (bytes : List ℕ) (table : PayTable)
    → 1 ≤ coin → 1 ≤ games → games ≤ 100000 → play_input coin bytes ≡ Ok (table, tt)
    → TellsPlay (record { table = table; coin = coin; seed = seed; games = games }) (answer_of (play_due (record { table = table; coin = coin; seed = seed; games = games })).said)
