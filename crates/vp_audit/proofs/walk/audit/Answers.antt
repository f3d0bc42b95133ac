use Rattle.vp_audit.proofs.Totals.{made_is}
use Rattle.vp_audit.proofs.walk.audit.Goals as goal

pub returns-clause-audited : goal.returns-clause-audited
returns-clause-audited g c = made_is c.args.game.now.table c.args.game.now.coin c.args.list.now c.walk-sums.ensures.rules.known_deck.0 c.walk-sums.result c.walk-sums.ensures.sums
