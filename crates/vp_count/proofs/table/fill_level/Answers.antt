use Rattle.std.proofs.Common.{arith}
use Rattle.vp_sets.proofs.Binomials.{choose_pos}
use Rattle.vp_count.proofs.table.fill_level.Goals as goal

pub set_at-requires-clause-index : goal.set_at-requires-clause-index
set_at-requires-clause-index c = choose_pos c.args.n c.args.k (omega arith)
