-- What the answer of `replay` tells.
use Rattle.std.specs.Prelude.{◌≡◌, ◌⊎◌, ℕ, ◌+◌, List, ◌∷◌, ◌++◌, length, Some, Ok}
use Rattle.std.specs.List.{AllByRecursion}
use Rattle.vp_text.specs.Written.{written}
use Rattle.vp_pay.specs.declared.table.PayTable.{PayTable}
use Rattle.vp_loggram.specs.Logs.{LogValue}
use Rattle.vp_loggram.specs.declared.event.Event.{Event}
use Rattle.vp_replay.specs.Costs.{IsCost, cost_of}
use Rattle.vp_replay.specs.LawfulGames.{AreLawfulGames}
use Rattle.vp_replay.specs.Rules.{break_of}
use Rattle.vp_replay.specs.Summaries.{last_credits, replay_lines}
use Rattle.vp_replay.specs.declared.rule.Broken.{Broken}
use Rattle.vp_answer.specs.Answers.{Answer, finding}
use Rattle.vp_answer.specs.declared.status.Status.TheVariants.{Done}
use Rattle.vp_replay.specs.Replay.{replay_answer, replay_input, replay_job, rule_of}

-- all games keep the laws, each from the credits of the one before it, and the answer is what their holds cost and the numbers of the
-- log; each cost is the best value of the 32 holds of the deal, less that of the held cards, at the bet
pub record TellsCosts (table : PayTable) (log : LogValue) (due : Answer) : Type 0 where
  pub status : due.status ≡ Done
  pub text : due.text ≡ written (replay_lines table log)
  pub lawful : AreLawfulGames table log.start log.events
  pub costs : AllByRecursion (λ e. IsCost table e (cost_of table e)) log.events

-- The games before it keep the laws, and this one does not: the first law that it breaks, from the credits that they leave, is this one.
-- Games are counted from `first`, and `credits` stand before the first.
pub record IsFirstBreak (table : PayTable) (first credits : ℕ) (events : List Event) (broken : Broken) : Type 0 where
  pub before : List Event
  pub event : Event
  pub behind : List Event
  pub games : events ≡ before ++ event ∷ behind
  pub number : broken.game ≡ length before + first
  pub lawful : AreLawfulGames table credits before
  pub breach : break_of table (last_credits credits before) event ≡ Some (record { rule = broken.rule; said = broken.said; due = broken.due })

-- some game breaks a law, and the answer names the first that does, with its first broken law
pub record NamesBreak (table : PayTable) (log : LogValue) (due : Answer) : Type 0 where
  pub broken : Broken
  pub first : IsFirstBreak table 1 log.start log.events broken
  pub named : due ≡ finding broken.game (rule_of broken.rule) broken.said broken.due

-- the answer of `replay` to each pay table and log that it takes
abbrev pub ReplaysTellCosts : Type 0
ReplaysTellCosts = (bytes : List ℕ) (table : PayTable) (log : LogValue) → replay_input bytes ≡ Ok (table, log)
    → TellsCosts table log (replay_answer (replay_job bytes)) ⊎ NamesBreak table log (replay_answer (replay_job bytes))
