use Rattle.vp_hits.proofs.Shares.{lines_make_the_return}
use Rattle.vp_hits.proofs.laws.lines_make_the_return.Goals as goal

pub returns : goal.returns
returns c = lines_make_the_return
