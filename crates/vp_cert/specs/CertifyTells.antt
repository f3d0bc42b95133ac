-- What the text of `certify` tells.
use Rattle.std.specs.Prelude.{◌≡◌, ◌≤◌, ℕ, List, Ok, length}
use Rattle.vp_text.specs.Written.{written}
use Rattle.vp_pay.specs.declared.table.PayTable.{PayTable}
use Rattle.vp_check.specs.Certificates.{Certificate, IsCertificate}
use Rattle.vp_check.specs.Checking.{check_result}
use Rattle.vp_check.specs.EveryDeal.{TellsEveryDeal}
use Rattle.vp_check.specs.Spelling.{certificate_text}
use Rattle.vp_check.specs.Truth.{due_certificate}
use Rattle.vp_check.specs.declared.finding.Checked.{Checked}
use Rattle.vp_answer.specs.Answers.{Answer, done}
use Rattle.vp_answer.specs.declared.status.Status.TheVariants.{Done}
use Rattle.vp_cert.specs.Certify.{certify_due, certify_input}

-- the answer is a certificate of this pay table and this bet in the grammar, the due one, which tells every deal
pub record PrintsAll (table : PayTable) (coin : ℕ) (due : Answer) : Type 0 where
  pub certificate : Certificate
  pub table_is : certificate.table ≡ table
  pub coin_is : certificate.coin ≡ coin
  pub status : due.status ≡ Done
  pub text : due.text ≡ written (certificate_text certificate)
  pub grammar : IsCertificate certificate
  pub due_is : certificate ≡ due_certificate table coin
  pub tells : TellsEveryDeal certificate

-- the text of `certify` to each pay table that it takes
abbrev pub CertificatesTellEveryDeal : Type 0
CertificatesTellEveryDeal = (coin : ℕ) (bytes : List ℕ) (table : PayTable)
    → 1 ≤ coin → certify_input coin bytes ≡ Ok (table, tt) → PrintsAll table coin (done (certify_due (record { table = table; coin = coin })).text)

-- the text is an input of `check`, short enough to be read, in which it finds no broken rule, whatever class lines are walked
pub record IsCheckedWell (printed : List ℕ) : Type 0 where
  pub short : length printed ≤ 67108864
  pub well : (from count : ℕ) → (checked : Checked) × (check_result printed from count ≡ Ok checked)

-- what `certify` prints of each pay table that it takes
abbrev pub CertificatesAreChecked : Type 0
CertificatesAreChecked = (coin : ℕ) (bytes : List ℕ) (table : PayTable)
    → 1 ≤ coin → certify_input coin bytes ≡ Ok (table, tt) → IsCheckedWell (certify_due (record { table = table; coin = coin })).text
