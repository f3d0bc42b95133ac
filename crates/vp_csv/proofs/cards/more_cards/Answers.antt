use Rattle.std.proofs.Common.{◌≡◌, ◌<◌, length, arith, sym, ◌∙◌, get_or}
use Rattle.std.proofs.lemmas.Bool.Decides.{nat_tests}
use Rattle.vp_csv.proofs.Field_cards.{step}
use Rattle.vp_csv.proofs.cards.more_cards.Goals as goal

pub cards-preserved : goal.cards-preserved
cards-preserved c =
    let full = c.if-is_full.ensures.value in
    let fits = c.if-is_full.ensures.fits in
    let not_full = c.if-is_full.false in
    let room : length c.cards.cards.items < 5 = grind (arith, nat_tests) in
    let space : get_or c.cards.rest.now 0 0 ≡ 32 = c.if-rest-ne32.false in
    let read = sym c.card_at.ensures ∙ c.in-Some.is in
    rw (c.push.ensures.items, c.split_at.ensures.back) (step c.cards.cards.items c.cards.rest.now c.in-Some.card _ c.cards-test.true space room read c.cards.invariant)
