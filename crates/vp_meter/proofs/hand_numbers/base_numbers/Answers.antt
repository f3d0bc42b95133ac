use Rattle.std.proofs.Common.{◌≡◌, length, rules}
use Rattle.vp_meter.proofs.LineNumbers.{base_is}
use Rattle.vp_meter.proofs.hand_numbers.base_numbers.Goals as goal

pub returns : goal.returns
returns c hand =
    let long : length c.payments_of-numbers.result ≡ 33 = search rules in
    base_is c.args.table.now c.args.coin c.args.place c.from.result c.payments_of-numbers.result hand c.from.ensures long c.requires.inside (c.payments_of-numbers.ensures.paid hand)
