use Rattle.std.proofs.Common.{ap, arith, length, ◌≡◌, ◌∙◌}
use Rattle.vp_pay.specs.declared.table.PayTable.{PayTable}
use Rattle.vp_wild.proofs.KeptPlaces.{slot_none, slot_some}
use Rattle.vp_wild.proofs.kept_lines.KeptLines.line.Goals.{then-from-len, else-from-len}
use Rattle.vp_wild.proofs.kept_lines.KeptLines.line.Goals as goal

pub returns-clause-line : goal.returns-clause-line
returns-clause-line g c =
    let seen : c.len.result ≡ length c.args.self.now.lines.items = c.len.ensures.value ∙ ap (λ (t : PayTable). length t.lines.items) (c.self.view_is ∙ c.slot-slot.ensures.same) in
    elim c.if-from-len.branch [
      | then-from-len w ↦ w.result-is ∙ slot_some c.args.self.now c.args.cards.now c.slot-slot.result c.len.result c.slot-slot.ensures.slot c.len.ensures.fits (omega (arith, c.from.ensures, w.if-from-len.true))
      | else-from-len w ↦ w.result-is ∙ slot_none c.args.self.now c.args.cards.now c.slot-slot.result c.len.result c.slot-slot.ensures.slot seen (omega (arith, c.from.ensures, w.if-from-len.false))
    ]
