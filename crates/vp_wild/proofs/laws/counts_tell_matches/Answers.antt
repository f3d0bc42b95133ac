-- Row by row.
use Rattle.vp_wild.proofs.CountTable.{matches-counts}
use Rattle.vp_wild.proofs.laws.counts_tell_matches.Goals as goal

pub returns : goal.returns
returns c = matches-counts
