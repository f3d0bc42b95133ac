use Rattle.std.proofs.Common.{refl}
use Rattle.vp_io.specs.Blocks.{waiting_in}
use Rattle.vp_io.proofs.block.Block.new.Goals as goal

pub returns : goal.returns
unfolding waiting_in
returns c = refl
