use Rattle.std.proofs.Common.{refl}
use Rattle.vp_count.proofs.HeldMasks.{indexed_start}
use Rattle.vp_count.proofs.holds.held_indexes.Goals as goal

pub loop-place-init : goal.loop-place-init
loop-place-init c = record { power = refl; so_far = indexed_start c.args.hand.now _ refl refl }
