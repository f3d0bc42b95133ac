-- The certificates that `certify` prints are true, so they tell every deal, and `check` finds no fault with them.
use Rattle.std.proofs.Common.{◌≡◌, ℕ, ◌≤◌, List, refl, None}
use Rattle.std.specs.Prelude.{Ok}
use Rattle.vp_text.specs.Written.{written}
use Rattle.vp_pay.specs.Bets.{IsBet}
use Rattle.vp_pay.specs.Inputs.{has_bet}
use Rattle.vp_pay.specs.declared.table.PayTable.{PayTable}
use Rattle.vp_pay.proofs.FittingBets.{bet_fits}
use Rattle.vp_pay.proofs.Inputs.{tables_read}
use Rattle.vp_check.specs.Checking.{checked}
use Rattle.vp_check.specs.Rules.{first_break}
use Rattle.vp_check.specs.Spelling.{certificate_text}
use Rattle.vp_check.specs.Truth.{due_certificate}
use Rattle.vp_check.proofs.Answered.{verdict_is}
use Rattle.vp_check.proofs.EveryDeals.{true_tells}
use Rattle.vp_check.proofs.PlainCertificates.{written_whole}
use Rattle.vp_check.proofs.ShortTexts.{short_certificate}
use Rattle.vp_check.proofs.TrueOnes.{due_is_certificate, due_is_true, true_anywhere}
use Rattle.vp_cert.specs.Certify.{CertifyInputsAreRead, certify_input}
use Rattle.vp_cert.specs.CertifyTells.{CertificatesAreChecked, CertificatesTellEveryDeal}

pub inputs_read : CertifyInputsAreRead
inputs_read coin = tables_read (has_bet coin)

-- the bet of an input of `certify` is one of its table
bet_found : (coin : ℕ) (bytes : List ℕ) (table : PayTable) → 1 ≤ coin → certify_input coin bytes ≡ Ok (table, tt) → IsBet table coin
bet_found coin bytes table some says =
    let found = ((tables_read (has_bet coin)).spelled bytes (table, tt)).0 says in
    record { rules = found.0; some = some; within = bet_fits coin table.coins found.1 }

pub certificates_tell : CertificatesTellEveryDeal
unfolding due_certificate
certificates_tell coin bytes table some says =
    let bet = bet_found coin bytes table some says in
    let c = due_certificate table coin in
    let grammar = due_is_certificate table coin bet in
    record {
      certificate = c;
      table_is = refl;
      coin_is = refl;
      status = refl;
      text = refl;
      grammar = grammar;
      due_is = refl;
      tells = true_tells c grammar (due_is_true table coin bet.rules);
    }

-- what is printed is read again, and is true over whatever lines are walked
pub certificates_checked : CertificatesAreChecked
certificates_checked coin bytes table some says =
    let bet = bet_found coin bytes table some says in
    let c = due_certificate table coin in
    let grammar = due_is_certificate table coin bet in
    let text = written (certificate_text c) in
    record {
      short = short_certificate c grammar;
      well = λ from count.
          let unbroken : first_break from count c ≡ None = true_anywhere from count c grammar (due_is_true table coin bet.rules) in
          (checked from count c, verdict_is text from count c None (written_whole c grammar) unbroken);
    }
