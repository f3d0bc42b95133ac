use Rattle.std.proofs.Common.{length}
use Rattle.vp_count.proofs.totals.+held_part.Given as goal

abbrev pub decreases-held_part : goal.decreases-held_part
decreases-held_part g l = length l.rest.now
