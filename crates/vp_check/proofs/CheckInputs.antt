-- The input of `check` is a certificate or is refused, and a certificate is judged by its first broken rule.
use Rattle.std.proofs.Common.{◌≡◌, ℕ, List, refl, inl, inr}
use Rattle.std.specs.Prelude.{Result, Ok, Err, ◌⊎◌}
use Rattle.vp_check.specs.Certificates.{Certificate}
use Rattle.vp_check.specs.Checking.{certificate_of}
use Rattle.vp_check.specs.Rules.{first_break}
use Rattle.vp_check.specs.Spelling.{RefusesCertificate, SpellsCertificate}
use Rattle.vp_check.proofs.Answered.{refused_tells, verdict_is}
use Rattle.vp_check.proofs.Certificates_grammar.{certificate_again, certificate_found, certificate_stops}
use Rattle.vp_check.specs.CheckJob.{CertificatesAreJudged, CheckInputsAreRefused, CheckInputsAreEither}

pub judged : CertificatesAreJudged
judged from count bytes c spells = verdict_is bytes from count c (first_break from count c) (certificate_again bytes c spells) refl

pub check_refusals : CheckInputsAreRefused
check_refusals from count line bytes = refused_tells bytes from count line

either_read : (bytes : List ℕ) (read : Result Certificate ℕ) → certificate_of bytes ≡ read → ((c : Certificate) × SpellsCertificate bytes c) ⊎ ((line : ℕ) × RefusesCertificate bytes line)
either_read bytes (Ok c) is = inl (c, certificate_found bytes c is)
either_read bytes (Err n) is = inr (n, certificate_stops bytes n is)

pub check_either : CheckInputsAreEither
check_either bytes = either_read bytes (certificate_of bytes) refl
