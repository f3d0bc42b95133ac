-- `replay`: what its input says, what it leaves to do, and what it prints. Input and text are this program's own (docs/FORMATS.md,
-- `vpoker replay`).
use Rattle.std.specs.Prelude.{◌≡◌, ◌<◌, ℕ, ◌*◌, true, List, ◌++◌, length, Option, Some, None, Result, Ok, Err}
use Rattle.vp_text.specs.Written.{written}
use Rattle.vp_pay.specs.Inputs.{AreRead, RefusesSection, SpellsSection, fits_all, section_input}
use Rattle.vp_pay.specs.Spelling.{table_text}
use Rattle.vp_pay.specs.Table.{IsTable}
use Rattle.vp_pay.specs.declared.table.PayTable.{PayTable}
use Rattle.vp_count.specs.Table.{first_word}
use Rattle.vp_loggram.specs.Logs.{IsLog, LogValue}
use Rattle.vp_loggram.specs.Sections.{log_at}
use Rattle.vp_loggram.specs.Spelling.{log_text}
use Rattle.vp_replay.specs.Rules.{break_in}
use Rattle.vp_replay.specs.Summaries.{cost_lines, replay_lines}
use Rattle.vp_replay.specs.declared.rule.Broken.{Broken}
use Rattle.vp_replay.specs.declared.rule.LogRule.{LogRule}
use Rattle.vp_replay.specs.declared.rule.LogRule.TheVariants as law
use Rattle.vp_answer.specs.Answers.{Answer, answer_read, done}
use Rattle.vp_answer.specs.Jobs.{Due}
use Rattle.vp_answer.proofs.SomeAnswers.{later_line}
use Rattle.vp_answer.specs.declared.rule.Rule.{Rule}
use Rattle.vp_answer.specs.declared.rule.Rule.TheVariants as rule
use Rattle.vp_answer.specs.declared.stop.Stop.{Stop}
use Rattle.vp_answer.specs.declared.stop.Stop.TheVariants.{Finding as Found, Refused as Refusal}

-- what an input of `replay` says: a pay table, then a log with cards of its deck, and nothing else; or the line where it is refused
abbrev pub replay_input : List ℕ → Result (PayTable × LogValue) ℕ
replay_input bytes = section_input fits_all (λ table. log_at table.deck) bytes

-- a pay table and a log behind it, as they are written
abbrev pub log_file : PayTable → LogValue → List ℕ
log_file table log = written (table_text table ++ log_text log)

-- a pay table, and a log of games on it
pub record Logged : Type 0 where
  pub table : PayTable
  pub log : LogValue

-- a log with cards of the table's deck, of which no game breaks a law
pub record IsLawful (l : Logged) : Type 0 where
  pub table : IsTable l.table
  pub log : IsLog l.table.deck l.log
  pub lawful : break_in l.table l.log ≡ None

-- a table of sums for each bet, and what the holds of the games cost with the numbers of the log
abbrev pub replay_due : Logged → Due
replay_due l = record { words = l.table.coins * first_word l.table.deck 6; text = written (replay_lines l.table l.log) }

-- it has a line
abbrev pub replay_some : (l : Logged) → 0 < length (replay_due l).text
replay_some l = later_line (cost_lines l.table true 1 l.log.events) _ _

-- the law of a game, among all rules
abbrev pub rule_of : LogRule → Rule
rule_of law.Bet = rule.Bet
rule_of law.Funds = rule.Funds
rule_of law.Deal = rule.Deal
rule_of law.Hold = rule.Hold
rule_of law.Count = rule.Count
rule_of law.Draw = rule.Draw
rule_of law.Pay = rule.Pay
rule_of law.Credits = rule.Credits

-- what a log with a broken law is stopped with
abbrev pub stop_of : Broken → Stop
stop_of b = Found b.game (rule_of b.rule) b.said b.due

-- a log is stopped at its first broken law, where there is one
abbrev pub judged_by : PayTable → LogValue → Option Broken → Result Logged Stop
judged_by table log None = Ok (record { table = table; log = log })
judged_by table log (Some b) = Err (stop_of b)

-- what a pay table and a log of its deck leave to do
abbrev pub judged_log : PayTable → LogValue → Result Logged Stop
judged_log table log = judged_by table log (break_in table log)

-- what was read leaves this to do, or is refused at a line
abbrev pub log_read : Result (PayTable × LogValue) ℕ → Result Logged Stop
log_read (Ok read) = judged_log read.0 read.1
log_read (Err line) = Err (Refusal line)

-- what an input leaves to do: a refused line, its first broken law, or a lawful log
abbrev pub replay_job : List ℕ → Result Logged Stop
replay_job bytes = log_read (replay_input bytes)

-- what `replay` answers where this is left to do
abbrev pub replay_answer : Result Logged Stop → Answer
replay_answer read = answer_read (λ (l : Logged). done (replay_due l).text) read

-- the log, as it is spelled
abbrev pub as_spelled : LogValue → LogValue
as_spelled log = log

-- a pay table, and a log with cards of its deck
abbrev pub ReplayInputsAreRead : Type 0
ReplayInputsAreRead = AreRead replay_input
    (SpellsSection fits_all (λ t. log_text) (λ t. IsLog t.deck) as_spelled)
    (RefusesSection fits_all (λ t. log_text) (λ t. IsLog t.deck))
