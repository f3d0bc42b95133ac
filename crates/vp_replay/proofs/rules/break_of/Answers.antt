-- Cards that break no law are lawful.
use Rattle.std.proofs.Common.{sym, ◌∙◌}
use Rattle.vp_replay.proofs.LawfulCards.{lawful_cards}
use Rattle.vp_replay.proofs.rules.break_of.Goals as goal

pub paid-pay-requires-clause-cards : goal.paid-pay-requires-clause-cards
paid-pay-requires-clause-cards g c = lawful_cards c.args.event.now (sym c.cards_breach.ensures.first ∙ c.in_default-cards_breach.is)
