use Rattle.vp_check.proofs.CheckTells.{checks_tell, checks_tell_walked}
use Rattle.vp_check.proofs.laws.checks_tell_deals.Goals as goal

pub returns-clause-every : goal.returns-clause-every
returns-clause-every c = checks_tell

pub returns-clause-walked : goal.returns-clause-walked
returns-clause-walked c = checks_tell_walked
