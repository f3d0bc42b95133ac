use Rattle.vp_audit.proofs.Shares.{deals_shared, least_at_most, loss_shared, worth_shared}
use Rattle.vp_audit.proofs.laws.losses_are_shared_out.Goals as goal

pub returns-clause-below : goal.returns-clause-below
returns-clause-below c = least_at_most

pub returns-clause-worth : goal.returns-clause-worth
returns-clause-worth c = worth_shared

pub returns-clause-deals : goal.returns-clause-deals
returns-clause-deals c = deals_shared

pub returns-clause-losses : goal.returns-clause-losses
returns-clause-losses c = loss_shared
