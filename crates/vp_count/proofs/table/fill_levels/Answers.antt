use Rattle.std.proofs.Common.{refl, arith}
use Rattle.vp_count.proofs.Fill.{five_start}
use Rattle.vp_count.proofs.table.fill_levels.Goals as goal

pub loop-k-init : goal.loop-k-init
loop-k-init c = record { few = omega arith; sums = five_start c.args.n c.args.words.now c.requires.long; same = refl }
