-- What is said of a class is kept by turns.
use Rattle.vp_cert.proofs.CertifyTells.{certificates_tell}
use Rattle.vp_cert.proofs.laws.certificates_tell_every_deal.Goals as goal

pub returns : goal.returns
returns c = certificates_tell
