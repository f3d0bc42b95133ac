use Rattle.std.proofs.Common.{◌∙◌}
use Rattle.vp_replay.proofs.Costing.{cost_is, length-in_order}
use Rattle.vp_replay.proofs.laws.costs_are_of_the_held_cards.Goals as goal

pub returns : goal.returns
returns c = λ table e known event lawful. cost_is table e known event.cards (length-in_order e.deal ∙ event.deal) lawful.cards
