-- What is printed is true, and is read again.
use Rattle.vp_cert.proofs.CertifyTells.{certificates_checked}
use Rattle.vp_cert.proofs.laws.certificates_are_checked.Goals as goal

pub returns : goal.returns
returns c = certificates_checked
