use Rattle.vp_wild.proofs.KeptPlaces.{none_kept}
use Rattle.vp_wild.proofs.kept_lines.KeptLines.new.Goals as goal

pub invariant_of-result : goal.invariant_of-result
invariant_of-result c = (none_kept c.args.table.now, c.of.ensures)
