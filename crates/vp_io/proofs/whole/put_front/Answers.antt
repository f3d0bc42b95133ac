-- A write moves bytes from the front of the rest to the end of what was taken.
use Rattle.std.proofs.Common.{arith, ◌∙◌}
use Rattle.std.proofs.lemmas.List.{take_rest}
use Rattle.vp_io.proofs.Moved.{Appends-more}
use Rattle.vp_io.proofs.whole.put_front.Goals as goal

pub loop-taken-preserved : goal.loop-taken-preserved
loop-taken-preserved g c = record {
  within = omega (arith, c.in-Ok.ensures.bound);
  took = Appends-more _ _ _ c.loop-taken.taken _ c.args.bytes.now _ (take_rest c.args.bytes.now c.loop-taken.taken) c.loop-taken.invariant.took c.in-Ok.ensures.bytes;
  calm = c.in-Ok.ensures.cause.kept ∙ c.loop-taken.invariant.calm;
}
