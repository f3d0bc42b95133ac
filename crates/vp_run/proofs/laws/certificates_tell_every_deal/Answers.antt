use Rattle.vp_run.proofs.CommandLaws.{certificates, checks, checks_walked}
use Rattle.vp_run.proofs.laws.certificates_tell_every_deal.Goals as goal

pub returns-clause-certify : goal.returns-clause-certify
returns-clause-certify c = certificates

pub returns-clause-check : goal.returns-clause-check
returns-clause-check c = checks

pub returns-clause-walked : goal.returns-clause-walked
returns-clause-walked c = checks_walked
