-- What a class line or the return breaks is the answer.
use Rattle.std.proofs.Common.{◌∙◌, sym}
use Rattle.vp_check.proofs.Verdicts.{broken_is, listed_is, walk_was}
use Rattle.vp_check.proofs.checker.answer.Goals as goal

pub returns-in-Some : goal.returns-in-Some
returns-in-Some g c bytes is =
    listed_is bytes c.args.from c.args.count c.args.certificate _ _ c.in-Some.broken c.bad.result is c.walk_end-end.ensures (walk_was c.args.certificate.table c.args.certificate.coin c.args.from c.from.result c.walk_end-end.result c.args.certificate.rows c.walk.result _ c.from.ensures c.walk.ensures c.in_ok-walked.was) c.in-Some.is c.bad.ensures

pub returns-in-Some-return_breach : goal.returns-in-Some-return_breach
returns-in-Some-return_breach g c bytes is =
    broken_is bytes c.args.from c.args.count c.args.certificate _ _ c.in-Some-return_breach.breach c.bad-in-Some-return_breach.result is c.walk_end-end.ensures (walk_was c.args.certificate.table c.args.certificate.coin c.args.from c.from.result c.walk_end-end.result c.args.certificate.rows c.walk.result _ c.from.ensures c.walk.ensures c.in_ok-walked.was) c.in_default.is
    (sym c.return_breach.ensures ∙ c.in-Some-return_breach.is) c.bad-in-Some-return_breach.ensures
