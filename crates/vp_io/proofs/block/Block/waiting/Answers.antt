use Rattle.std.proofs.Common.{ap, ◌∙◌}
use Rattle.vp_io.specs.Blocks.{Waiting}
use Rattle.vp_io.proofs.Waiting.{waiting_part}
use Rattle.vp_io.proofs.block.Block.waiting.Goals as goal

pub returns : goal.returns
returns c = waiting_part c.self.inside.first c.self.inside.used c.self.inside.bytes c.self.invariant.0 ∙ ap (λ (w : Waiting). w.bytes) c.self.view_is
