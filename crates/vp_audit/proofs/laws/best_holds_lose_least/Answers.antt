use Rattle.vp_audit.proofs.MaskedLists.{best_lose_least}
use Rattle.vp_audit.proofs.laws.best_holds_lose_least.Goals as goal

pub returns : goal.returns
returns c = λ table coin pool order places mask bet inside low. best_lose_least table coin pool order places mask bet.rules.known_deck.0 inside low
