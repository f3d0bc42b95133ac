use Rattle.vp_hits.proofs.Shares.{lines_share_out_draws}
use Rattle.vp_hits.proofs.laws.lines_share_out_draws.Goals as goal

pub returns : goal.returns
returns c = lines_share_out_draws
