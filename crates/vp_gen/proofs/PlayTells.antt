-- What `play` answers to a pay table, and what `replay` answers to that table and the log that is made.
use Rattle.std.proofs.Common.{◌≡◌, ℕ, ◌≤◌, List, length, refl, ap, ◌∙◌, arith}
use Rattle.std.specs.Prelude.{Ok}
use Rattle.vp_text.specs.Written.{written}
use Rattle.vp_pay.specs.Inputs.{has_bet}
use Rattle.vp_pay.specs.declared.table.PayTable.{PayTable}
use Rattle.vp_pay.proofs.FittingBets.{bet_fits}
use Rattle.vp_pay.proofs.Inputs.{tables_read}
use Rattle.vp_loggram.specs.Spelling.{log_text}
use Rattle.vp_replay.specs.Replay.{judged_by, log_read}
use Rattle.vp_replay.proofs.LogFiles.{file_says, file_short}
use Rattle.vp_gen.specs.Play.{IsPlayed, PlayInputsAreRead, Played, log_of, play_input}
use Rattle.vp_gen.specs.PlayTells.{IsReplayed, PlaysAreReplayed}
use Rattle.vp_gen.proofs.MadeLogs.{log_accepted}
use Rattle.vp_gen.proofs.Sizes.{log_width}

pub inputs_read : PlayInputsAreRead
inputs_read coin = tables_read (has_bet coin)

-- ---- the table and the log are an input of `replay`

made_short : (p : Played) → IsPlayed p → length (written (log_text (log_of p))) ≤ 60000000
made_short p is = let a = log_accepted p is in omega (arith, log_width p.table.deck (log_of p) a.grammar (omega (arith, a.count, is.most)))

replayed : (p : Played) → IsPlayed p → IsReplayed p
replayed p is = record {
  short = file_short p.table (log_of p) is.bet.rules (made_short p is);
  job = ap log_read (file_says p.table (log_of p) is.bet.rules (log_accepted p is).grammar) ∙ ap (judged_by p.table (log_of p)) (log_accepted p is).lawful;
  text = refl;
}

-- ---- the answer of `play`

play_found : (coin seed games : ℕ) (bytes : List ℕ) (table : PayTable) → 1 ≤ coin → 1 ≤ games → games ≤ 100000 → play_input coin bytes ≡ Ok (table, tt)
    → IsPlayed (record { table = table; coin = coin; seed = seed; games = games })
play_found coin seed games bytes table some_coin some most says =
    let found = ((tables_read (has_bet coin)).spelled bytes (table, tt)).0 says in
    record { bet = record { rules = found.0; some = some_coin; within = bet_fits coin table.coins found.1 }; some = some; most = most }

pub plays_replayed : PlaysAreReplayed
plays_replayed coin seed games bytes table some_coin some most says =
    let p : Played = record { table = table; coin = coin; seed = seed; games = games } in
    let played = play_found coin seed games bytes table some_coin some most says in
    record { status = refl; text = refl; accepted = log_accepted p played; replayed = replayed p played }
