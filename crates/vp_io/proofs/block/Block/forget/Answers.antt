-- At most the bytes that wait are forgotten.
use Rattle.std.proofs.Common.{ap, ◌∙◌, arith, length, drop}
use Rattle.vp_io.specs.Blocks.{Waiting}
use Rattle.vp_io.proofs.Waiting.{waiting_behind, waiting_length}
use Rattle.vp_io.proofs.block.Block.forget.Goals as goal

pub overflow_add-self : goal.overflow_add-self
overflow_add-self c =
    omega (arith, c.self.invariant, waiting_length c.self.inside.first c.self.inside.used c.self.inside.bytes (omega (arith, c.self.invariant)), ap (λ (w : Waiting). length w.bytes) c.self.view_is)

pub invariant_of-self : goal.invariant_of-self
invariant_of-self c = (
  omega (arith, c.self.invariant, waiting_length c.self.inside.first c.self.inside.used c.self.inside.bytes (omega (arith, c.self.invariant)), ap (λ (w : Waiting). length w.bytes) c.self.view_is),
  c.self.invariant.1,
  c.self.invariant.2,
)

pub returns-clause-bytes : goal.returns-clause-bytes
returns-clause-bytes c =
    waiting_behind c.self.inside.first c.self.inside.used c.args.count c.self.inside.bytes ∙ ap (λ (w : Waiting). drop c.args.count w.bytes) c.self.view_is
