use Rattle.std.proofs.Common.{◌≡◌}
use Rattle.vp_run.proofs.arguments.texts_of.Given as goal

abbrev pub invariant-loop-text : goal.invariant-loop-text
invariant-loop-text l = l.texts.items ≡ l.yielded
