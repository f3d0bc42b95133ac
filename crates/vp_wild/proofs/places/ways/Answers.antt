use Rattle.vp_wild.proofs.RankWays.{rank_ways}
use Rattle.vp_wild.proofs.places.ways.Goals as goal

pub returns : goal.returns
returns c = rank_ways c.args.place c.args.card c.requires.place c.requires.card
