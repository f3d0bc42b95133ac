use Rattle.std.proofs.Common.{ap, get_or, ◌∙◌}
use Rattle.vp_wild.specs.Kept.{Bet}
use Rattle.vp_wild.specs.Payment.{pay}
use Rattle.vp_wild.proofs.KeptPlaces.{slot_small}
use Rattle.vp_wild.proofs.kept.KeptPayments.pay.Goals as goal

pub bounds-self-inside-slot : goal.bounds-self-inside-slot
bounds-self-inside-slot g c = slot_small c.self.inside.lines c.args.cards.now c.slot.result c.self.invariant.2.few c.slot.ensures.slot

pub returns-clause-payment : goal.returns-clause-payment
returns-clause-payment g c =
    ap (λ i. get_or c.self.inside.pays i 0) c.slot.ensures.slot ∙ c.self.invariant.2.told c.args.cards.now ∙ ap (λ (b : Bet). pay b.table b.coin c.args.cards.now) c.self.view_is
