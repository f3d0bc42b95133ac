-- What `replay` answers to a pay table and a log.
use Rattle.std.proofs.Common.{◌≡◌, ℕ, ◌+◌, List, [], ◌∷◌, refl, sym, ap, subst, ◌∙◌, arith, inl, inr, Option, Some, None}
use Rattle.std.specs.Prelude.{Ok, Err, Result, ◌⊎◌}
use Rattle.std.specs.List.{AllByRecursion}
use Rattle.vp_text.specs.Lines.{Feed}
use Rattle.vp_text.specs.Reading.{◌>>=◌}
use Rattle.vp_text.specs.ExactReaders.{Exact}
use Rattle.vp_text.proofs.Pieces.{same_value}
use Rattle.vp_pay.specs.Table.{IsTable}
use Rattle.vp_pay.specs.declared.table.PayTable.{PayTable}
use Rattle.vp_loggram.specs.Logs.{IsEvent, IsLog, LogValue}
use Rattle.vp_loggram.specs.Sections.{log_at}
use Rattle.vp_loggram.specs.Spelling.{log_text}
use Rattle.vp_loggram.specs.declared.event.Event.{Event}
use Rattle.vp_loggram.proofs.Logs_grammar.{Exact-log}
use Rattle.vp_replay.specs.Costs.{IsCost, cost_of}
use Rattle.vp_replay.specs.LawfulGames.{AreLawfulGames}
use Rattle.vp_replay.specs.Rules.{break_in, break_of, first_break, or_later}
use Rattle.vp_replay.specs.Summaries.{last_credits}
use Rattle.vp_replay.specs.declared.rule.Broken.{Broken}
use Rattle.vp_replay.specs.declared.rule.LogRule.{LogRule}
use Rattle.vp_replay.proofs.Costing.{cost_is, length-in_order}
use Rattle.vp_replay.proofs.Runs.{lawful_game, lawful_games}
use Rattle.vp_answer.specs.Answers.{Answer}
use Rattle.vp_pay.specs.Inputs.{fits_all}
use Rattle.vp_pay.proofs.Inputs.{section_read}
use Rattle.vp_replay.specs.Replay.{ReplayInputsAreRead, as_spelled, judged_by, log_read, replay_answer, replay_input}
use Rattle.vp_replay.specs.ReplayTells.{IsFirstBreak, NamesBreak, ReplaysTellCosts, TellsCosts}

-- ---- the input

log_exact : (t : PayTable) → IsTable t → Exact log_text (IsLog t.deck) (log_at t.deck)
log_exact t table = Exact-log t.deck table.known_deck

seen_as : (r : Result (LogValue × Feed) ℕ) → r ≡ (r >>= λ a. Ok (as_spelled a.0, a.1))
seen_as (Ok a) = refl
seen_as (Err e) = refl

pub inputs_read : ReplayInputsAreRead
inputs_read = section_read fits_all (λ t. log_text) (λ t. IsLog t.deck) as_spelled (λ t. log_at t.deck) (λ t. log_at t.deck) log_exact (λ t feed. seen_as (log_at t.deck feed))

-- a pay table and a log that were read are valid
pub read_valid : (bytes : List ℕ) (table : PayTable) (log : LogValue) → replay_input bytes ≡ Ok (table, log) → IsTable table × IsLog table.deck log
read_valid bytes table log says =
    let found = (inputs_read.spelled bytes (table, log)).0 says in
    let both = found.1.0 in
    (both.0, rw found.2 both.1)

-- ---- a game that breaks a law

-- the first game breaks this law
stopped : (table : PayTable) (game credits : ℕ) (e : Event) (events : List Event) (rule : LogRule) (said due : ℕ) (b : Broken)
    → break_of table credits e ≡ Some (record { rule = rule; said = said; due = due }) → record { game = game; rule = rule; said = said; due = due } ≡ b → IsFirstBreak table game credits (e ∷ events) b
unfolding last_credits
stopped table game credits e events rule said due b breach same =
    subst (IsFirstBreak table game credits (e ∷ events)) same (record {
      before = [];
      event = e;
      behind = events;
      games = refl;
      number = omega arith;
      lawful = tt;
      breach = breach;
    })

-- the first game breaks no law, and a later one does
goes_on : (table : PayTable) (game credits : ℕ) (e : Event) (events : List Event) (b : Broken)
    → break_of table credits e ≡ None → IsFirstBreak table (game + 1) e.credits events b → IsFirstBreak table game credits (e ∷ events) b
unfolding last_credits
goes_on table game credits e events b none rest = record {
  before = e ∷ rest.before;
  event = rest.event;
  behind = rest.behind;
  games = ap (λ (es : List Event). e ∷ es) rest.games;
  number = let n = rest.number in omega (arith, n);
  lawful = (lawful_game table credits e none, rest.lawful);
  breach = rest.breach;
}

first_at : (table : PayTable) (game credits : ℕ) (events : List Event) (b : Broken) → first_break table game credits events ≡ Some b → IsFirstBreak table game credits events b
unfolding first_break
first_at table game credits [] b is = absurd cc
first_at table game credits (e ∷ events) b is =
    (elim (break_of table credits e) as (λ o. break_of table credits e ≡ o → or_later o game (first_break table (game + 1) e.credits events) ≡ Some b → IsFirstBreak table game credits (e ∷ events) b) [
      | None ↦ λ none later. goes_on table game credits e events b none (first_at table (game + 1) e.credits events b later)
      | Some breach ↦ λ some here. stopped table game credits e events breach.rule breach.said breach.due b some (same_value _ b here)
    ]) refl is

-- ---- the answer

costs_are : (table : PayTable) (credits : ℕ) (events : List Event) → IsTable table → AreLawfulGames table credits events → AllByRecursion (IsEvent table.deck) events → AllByRecursion (λ e. IsCost table e (cost_of table e)) events
costs_are table credits [] known games all = tt
costs_are table credits (e ∷ events) known games all = (cost_is table e known all.0.cards (length-in_order e.deal ∙ all.0.deal) games.0.event.cards, costs_are table e.credits events known games.1 all.1)

judged : (table : PayTable) (log : LogValue) → IsTable table × IsLog table.deck log → (o : Option Broken) → break_in table log ≡ o → (due : Answer) → replay_answer (judged_by table log o) ≡ due
    → TellsCosts table log due ⊎ NamesBreak table log due
judged table log valid None none due is =
    let games = lawful_games table 1 log.start log.events none in
    inl (record {
      status = ap (λ (a : Answer). a.status) (sym is);
      text = ap (λ (a : Answer). a.text) (sym is);
      lawful = games;
      costs = costs_are table log.start log.events valid.0 games valid.1.events;
    })
judged table log valid (Some b) some due is = inr (record { broken = b; first = first_at table 1 log.start log.events b some; named = sym is })

pub replays_tell : ReplaysTellCosts
replays_tell bytes table log says =
    judged table log (read_valid bytes table log says) (break_in table log) refl (replay_answer (log_read (replay_input bytes))) (ap (λ r. replay_answer (log_read r)) (sym says))
