-- The log is opened as it was made.
use Rattle.std.proofs.Common.{◌≡◌, ℕ, ap, arith, length, refl, subst, sym, ◌∙◌}
use Rattle.std.specs.Prelude.{Ok, Result}
use Rattle.vp_text.specs.Lines.{feed_of}
use Rattle.vp_text.specs.declared.refused.Refused.{Refused}
use Rattle.vp_loggram.specs.Logs.{LogValue}
use Rattle.vp_replay.specs.Summaries.{AllBet}
use Rattle.vp_gen.specs.Play.{IsPlayed, Played, log_of}
use Rattle.vp_gen.proofs.MadeLogs.{log_accepted, takes_log}
use Rattle.vp_gen.proofs.job.PlayJob.read_log.Goals as goal

same_value : (a b : LogValue) (read : Result LogValue Refused) → read ≡ Ok a → read ≡ Ok b → a ≡ b
same_value a b read e f = cc

read_is : (c : goal.After-open) → c.open.result ≡ Ok (log_of c.args.self.now)
read_is c =
    takes_log c.args.self.now c.self.inside.table.deck _ c.open.result (subst IsPlayed c.self.view_is c.self.invariant) (c.new.ensures ∙ ap feed_of c.requires)
    (ap (λ (p : Played). p.table.deck) (sym c.self.view_is)) c.open.ensures.only

log_is : (c : goal.After-unwrap) → c.unwrap.result ≡ log_of c.args.self.now
log_is c =
    let read : c.open.result ≡ Ok (log_of c.args.self.now) =
    takes_log c.args.self.now c.self.inside.table.deck _ c.open.result (subst IsPlayed c.self.view_is c.self.invariant) (c.new.ensures ∙ ap feed_of c.requires)
    (ap (λ (p : Played). p.table.deck) (sym c.self.view_is)) c.open.ensures.only in
    same_value c.unwrap.result (log_of c.args.self.now) c.open.result c.unwrap.ensures read

pub new-requires : goal.new-requires
new-requires c =
    let is = subst IsPlayed c.self.view_is c.self.invariant in
    omega (arith, ap {B = ℕ} length c.requires, (log_accepted c.args.self.now is).fits)

pub unwrap-requires : goal.unwrap-requires
unwrap-requires c = rw (read_is c) refl

pub returns-clause-log : goal.returns-clause-log
returns-clause-log c = log_is c

pub returns-clause-grammar : goal.returns-clause-grammar
returns-clause-grammar c = rw (log_is c) (log_accepted c.args.self.now (subst IsPlayed c.self.view_is c.self.invariant)).grammar

pub returns-clause-lawful : goal.returns-clause-lawful
returns-clause-lawful c = rw (log_is c) (log_accepted c.args.self.now (subst IsPlayed c.self.view_is c.self.invariant)).lawful

pub returns-clause-bets : goal.returns-clause-bets
returns-clause-bets c = subst (λ (log : LogValue). AllBet c.args.self.now.coin log.events) (sym (log_is c)) (log_accepted c.args.self.now (subst IsPlayed c.self.view_is c.self.invariant)).bets
