use Rattle.vp_hold.proofs.Numbers.{sums_as}
use Rattle.vp_wild.specs.Payment.{pay}
use Rattle.vp_hold.proofs.payments.payment_means.Goals as goal

pub returns-clause-sums : goal.returns-clause-sums
returns-clause-sums g c = sums_as c.args.table.now (pay c.args.table.now c.args.coin) c.payments_of.result c.number_means.result c.payments_of.ensures.paid c.number_means.ensures.sums
