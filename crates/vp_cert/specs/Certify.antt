-- `certify`: what its input says, and what it prints. Input and text are this program's own (docs/FORMATS.md, `vpoker certify`).
use Rattle.std.specs.Prelude.{◌<◌, ℕ, List, refl, length, Result}
use Rattle.vp_text.specs.Written.{written}
use Rattle.vp_pay.specs.Bets.{Bet}
use Rattle.vp_pay.specs.Inputs.{AreRead, RefusesTable, SpellsTable, has_bet, table_input}
use Rattle.vp_pay.specs.Spelling.{table_text}
use Rattle.vp_pay.specs.declared.table.PayTable.{PayTable}
use Rattle.vp_count.specs.Table.{first_word}
use Rattle.vp_check.specs.Spelling.{certificate_text}
use Rattle.vp_check.specs.Truth.{due_certificate}
use Rattle.vp_answer.specs.Jobs.{Due, read_as}
use Rattle.vp_answer.proofs.SomeAnswers.{some_lines}
use Rattle.vp_answer.specs.declared.stop.Stop.{Stop}

-- what an input of `certify` says: a pay table that has the bet, and nothing else; or the line where it is refused
abbrev pub certify_input : ℕ → List ℕ → Result (PayTable × Unit {0}) ℕ
certify_input coin bytes = table_input (has_bet coin) bytes

-- a table of sums, and the spelling of the true certificate whose masks are the least best ones
abbrev pub certify_due : Bet → Due
certify_due s = record { words = first_word s.table.deck 6; text = written (certificate_text (due_certificate s.table s.coin)) }

-- it has a line
abbrev pub certify_some : (s : Bet) → 0 < length (certify_due s).text
unfolding certificate_text table_text
certify_some s = some_lines (certificate_text (due_certificate s.table s.coin)) refl

-- what an input leaves to do
abbrev pub certify_job : ℕ → List ℕ → Result Bet Stop
certify_job coin bytes = read_as (λ read. record { table = read.0; coin = coin }) (certify_input coin bytes)

-- a pay table that has the bet
abbrev pub CertifyInputsAreRead : Type 0
CertifyInputsAreRead = (coin : ℕ) → AreRead (certify_input coin) (SpellsTable (has_bet coin)) (RefusesTable (has_bet coin))
