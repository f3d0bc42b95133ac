use Rattle.std.proofs.Common.{arith}
use Rattle.std.proofs.lemmas.Bool.Decides.{nat_tests}
use Rattle.vp_cert.proofs.asked.AskedHolds.best.Goals as goal

pub returns-clause-counted : goal.returns-clause-counted
returns-clause-counted c = grind (arith, nat_tests)
