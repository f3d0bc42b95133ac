use Rattle.std.proofs.Common.{arith, refl}
use Rattle.vp_meter.proofs.LineNumbers.{renumbered_more, renumbered_all}
use Rattle.vp_meter.proofs.hand_numbers.renumber.Goals as goal

pub loop-index-init : goal.loop-index-init
loop-index-init c = record { long = refl; done = refl; rest = λ i l. refl }

pub loop-index-preserved : goal.loop-index-preserved
loop-index-preserved c = renumbered_more c.args.numbers.now c.args.words.now c.loop-index.words c.loop-index.index _ (omega arith) refl c.loop-index.invariant

pub returns : goal.returns
returns c = renumbered_all c.args.numbers.now c.args.words.now c.loop-index.words c.loop-index.index (omega arith) c.loop-index.invariant
