use Rattle.vp_meter.proofs.DealSums.{pieces_sum}
use Rattle.vp_meter.proofs.laws.pieces_sum_all_deals.Goals as goal

pub returns : goal.returns
returns c = pieces_sum
