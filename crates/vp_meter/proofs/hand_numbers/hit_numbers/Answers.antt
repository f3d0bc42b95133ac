use Rattle.vp_meter.proofs.LineNumbers.{hit_is}
use Rattle.vp_meter.proofs.hand_numbers.hit_numbers.Goals as goal

pub returns : goal.returns
returns c table hand = hit_is table c.args.place c.from.result hand c.from.ensures c.requires
