use Rattle.std.proofs.Common.{◌≡◌, filter, length}
use Rattle.vp_suit.specs.Classes.{is_representative}
use Rattle.vp_suit.proofs.classes.Classes.next.Given as goal

abbrev pub invariant-loop-deal : goal.invariant-loop-deal
invariant-loop-deal l = filter (λ cards. is_representative cards) l.self-inside.deals ≡ l.fn.self

abbrev pub decreases-loop-deal : goal.decreases-loop-deal
decreases-loop-deal l = length l.self-inside.deals
