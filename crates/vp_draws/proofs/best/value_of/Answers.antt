use Rattle.std.proofs.Common.{◌≡◌}
use Rattle.vp_sets.proofs.Holds.{dealt_from}
use Rattle.vp_draws.specs.Draws.{value}
use Rattle.vp_draws.proofs.Values.{value_mean}
use Rattle.vp_draws.proofs.best.value_of.Goals as goal

pub returns-clause-mean : goal.returns-clause-mean
returns-clause-mean g c =
    let worth : c.hold_value.result ≡ value c.args.table.now c.args.coin c.args.hand.now c.args.mask = rw (c.new-payments.ensures.table, c.new-payments.ensures.coin) at c.hold_value.ensures.value in
    rw worth (value_mean c.args.table.now c.args.coin c.args.hand.now c.args.mask c.requires.table (dealt_from c.args.table.now.deck c.args.hand.now c.hold_value.ensures.hand c.requires.cards))
