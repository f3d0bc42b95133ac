-- A pay table and a log behind it, as they are written, are an input of `replay`.
use Rattle.std.proofs.Common.{◌≡◌, ◌≤◌, ℕ, List, [], ◌++◌, length, refl, sym, ap, ◌∙◌, arith, append-nil}
use Rattle.std.specs.Prelude.{Ok}
use Rattle.std.proofs.lemmas.Grind.{flat_map-append}
use Rattle.vp_text.specs.Lines.{feed_of}
use Rattle.vp_text.specs.Sections.{Text, text_of}
use Rattle.vp_text.specs.Written.{line_of, written}
use Rattle.vp_text.proofs.Room.{written-append}
use Rattle.vp_text.proofs.Spelled.{text_of-append}
use Rattle.vp_text.proofs.Writing.{written_read}
use Rattle.vp_pay.specs.Spelling.{table_text}
use Rattle.vp_pay.specs.Table.{IsTable}
use Rattle.vp_pay.specs.Written.{IsReadAgain}
use Rattle.vp_pay.specs.declared.table.PayTable.{PayTable}
use Rattle.vp_pay.proofs.Plain.{plain_table}
use Rattle.vp_loggram.specs.Logs.{IsLog, LogValue}
use Rattle.vp_loggram.specs.Spelling.{log_text}
use Rattle.vp_loggram.proofs.Log_laws.{written_again}
use Rattle.vp_pay.proofs.ShortTables.{short_table}
use Rattle.vp_replay.specs.Replay.{log_file, replay_input}
use Rattle.vp_replay.proofs.ReplayTells.{inputs_read}

-- the lines of a log that is written are those of its text
log_lines : (log : LogValue) → IsReadAgain log_text log [] → text_of (feed_of (written (log_text log))).lines ≡ log_text log
log_lines log again =
    let s = again.front in
    ap (λ (bytes : List ℕ). text_of (feed_of bytes).lines) (sym (append-nil (written (log_text log))))
    ∙ ap text_of s.lines
    ∙ text_of-append s.front again.left.lines
    ∙ ap (λ (t : Text). t ++ text_of again.left.lines) s.spelled
    ∙ ap (λ (t : Text). log_text log ++ t) again.rest
    ∙ append-nil (log_text log)

-- and those of the table and the log are those of both texts
file_lines : (table : PayTable) (log : LogValue) → IsTable table → IsLog table.deck log → text_of (feed_of (log_file table log)).lines ≡ table_text table ++ log_text log
file_lines table log rules is =
    ap (λ (bytes : List ℕ). text_of (feed_of bytes).lines) (flat_map-append line_of (table_text table) (log_text log))
    ∙ written_read (table_text table) (written (log_text log)) (plain_table table rules)
    ∙ ap (λ (t : Text). table_text table ++ t) (log_lines log (written_again table.deck log [] rules.known_deck is))

-- it is an input of `replay`
pub file_says : (table : PayTable) (log : LogValue) → IsTable table → IsLog table.deck log → replay_input (log_file table log) ≡ Ok (table, log)
file_says table log rules is = (inputs_read.spelled (log_file table log) (table, log)).1 (log, ((rules, is), refl, file_lines table log rules is), refl)

-- and it is short enough to be read
pub file_short : (table : PayTable) (log : LogValue) → IsTable table → length (written (log_text log)) ≤ 60000000 → length (log_file table log) ≤ 67108864
file_short table log rules short = omega (arith, written-append (table_text table) (log_text log), short_table table rules, short)
