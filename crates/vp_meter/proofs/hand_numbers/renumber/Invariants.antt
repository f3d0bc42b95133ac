use Rattle.vp_meter.proofs.LineNumbers.{Renumbered}
use Rattle.vp_meter.proofs.hand_numbers.renumber.Given as goal

abbrev pub invariant-loop-index : goal.invariant-loop-index
invariant-loop-index l = Renumbered l.numbers l.fn.words l.words l.index
