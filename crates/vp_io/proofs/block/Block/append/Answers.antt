-- The block after the copy is what it was up to there, and then the piece.
use Rattle.std.proofs.Common.{◌≡◌, ◌+◌, ◌++◌, ◌∙◌, ap, arith, length, take, length-take}
use Rattle.std.proofs.lemmas.Slice.{take-put_mid}
use Rattle.vp_io.specs.Blocks.{Waiting}
use Rattle.vp_io.proofs.Waiting.{waiting_grown}
use Rattle.vp_io.proofs.block.Block.append.Goals as goal

pub returns-clause-bytes : goal.returns-clause-bytes
returns-clause-bytes c =
    let first = c.self.inside.first in
    let used = c.self.inside.used in
    let block = c.self.inside.bytes in
    let count = c.min-count.result in
    let piece = take count c.args.piece.now in
    let many : length piece ≡ count = omega (arith, length-take count c.args.piece.now, c.min-count.ensures) in
    let long : used + count ≡ used + length c.copy_from_slice.new.self = omega (arith, ap length c.copy_from_slice.ensures.after) in
    let copied = take-put_mid used _ block c.copy_from_slice.new.self (used + count) long (omega (arith, c.self.invariant)) in
    waiting_grown first used (used + count) block _ piece c.self.invariant.0 (omega (arith, c.self.invariant)) (copied ∙ ap (λ l. take used block ++ l) c.copy_from_slice.ensures.after)
    ∙ ap (λ (w : Waiting). w.bytes ++ piece) c.self.view_is
