-- The payment stands in the line that is hit.
use Rattle.std.proofs.Common.{◌∙◌, ◌-◌, List, ℕ, sym, ap, get_or, slice_index}
use Rattle.vp_pay.specs.declared.table.PayLine.{PayLine}
use Rattle.vp_wild.proofs.ByShape.{pay_at, pay_none}
use Rattle.vp_wild.proofs.ranker.pay.Goals as goal

pub returns-in-Some-clause-payment : goal.returns-in-Some-clause-payment
returns-in-Some-clause-payment g c =
    let lines = c.deref.result.now in
    let line = c.index-deref-position.result in
    ap (λ (i : ℕ). slice_index (get_or lines c.in-Some.position line).pays i) c.from.ensures
    ∙ ap (λ (ls : List PayLine). slice_index (get_or ls c.in-Some.position line).pays (c.args.coin - 1)) c.deref.ensures.0
    ∙ sym (pay_at c.args.table.now c.args.coin c.args.hand.now c.in-Some.position line (sym c.in-Some.ensures.first))

pub returns-in-None-clause-payment : goal.returns-in-None-clause-payment
returns-in-None-clause-payment g c = sym (pay_none c.args.table.now c.args.coin c.args.hand.now (sym c.in-None.ensures.first))
