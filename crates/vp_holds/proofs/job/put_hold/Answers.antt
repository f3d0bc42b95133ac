use Rattle.std.proofs.Common.{[], List, get_or, ap, arith, refl, ◌∙◌}
use Rattle.vp_io.proofs.Puts_laws.{Puts_as}
use Rattle.vp_text.specs.Lines.{Word}
use Rattle.vp_text.specs.Written.{line_of}
use Rattle.vp_deal.specs.Deal.{Dealt}
use Rattle.vp_holds.proofs.HoldLines.{line_is, row_last, row_take}
use Rattle.vp_holds.proofs.job.put_hold.Goals as goal

pub returns : goal.returns
returns g c =
    let d : Dealt = record { table = c.args.table.now; coin = c.args.coin; hand = c.args.hand.now } in
    let row = get_or c.args.counts.now c.args.mask [] in
    Puts_as (ap (λ (words : List Word). line_of words) (line_is d c.args.mask _ _ _ _ _ (c.deref.ensures.0 ∙ c.held.ensures.cards) (c.requires.values c.args.mask c.requires.mask) c.common-under.ensures.value
    (c.row_parts-none.ensures.lines ∙ row_take d c.args.counts.now row c.args.mask c.len.result c.requires.counts c.requires.mask c.len.ensures.value (omega (arith, c.len.ensures.value, c.requires.dealt.bet.rules.most_lines)) refl c.row_parts-none.ensures.long)
    (c.row_parts-none.ensures.none ∙ row_last d c.args.counts.now row c.args.mask c.requires.counts c.requires.mask refl))) c.put_row.ensures
