use Rattle.vp_audit.proofs.KeptValues.{allows_kept, decided_kept, greatest_value_kept, least_value_kept}
use Rattle.vp_audit.proofs.laws.rules_are_priced_by_classes.Goals as goal

pub returns-clause-values : goal.returns-clause-values
returns-clause-values c = allows_kept

pub returns-clause-decided : goal.returns-clause-decided
returns-clause-decided c = decided_kept

pub returns-clause-least : goal.returns-clause-least
returns-clause-least c = λ t coin table list cards big l d. least_value_kept table list big t coin cards l d

pub returns-clause-greatest : goal.returns-clause-greatest
returns-clause-greatest c = λ t coin table list cards big l d. greatest_value_kept table list big t coin cards l d
