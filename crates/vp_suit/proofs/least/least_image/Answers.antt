use Rattle.std.proofs.Common.{ap, subst, sym, true, ◌≡◌, ◌∙◌, ◌<◌}
use Rattle.vp_suit.specs.Classes.{is_representative, representative}
use Rattle.vp_suit.specs.Turns.{turn}
use Rattle.vp_suit.proofs.Cards.{turn_first}
use Rattle.vp_suit.proofs.Hands.{hand_rises}
use Rattle.vp_suit.proofs.Representatives.{Found, found_own, Represented, represented}
use Rattle.vp_suit.proofs.least.least_image.Goals as goal

own : (c : goal.After-first) → Found c.args.hand.now c.args.hand.now 0
own c = found_own c.args.hand.now (hand_rises c.args.hand.now c.is_representative.ensures.hand) (sym c.is_representative.ensures.value ∙ c.if-is_representative.true)

pub returns-then-is_representative-clause-representative : goal.returns-then-is_representative-clause-representative
returns-then-is_representative-clause-representative c = (own c).image_is

pub returns-then-is_representative-clause-turn : goal.returns-then-is_representative-clause-turn
returns-then-is_representative-clause-turn c = c.first.ensures ∙ (own c).turn_is

pub returns-then-is_representative-clause-least : goal.returns-then-is_representative-clause-least
returns-then-is_representative-clause-least c = (own c).least

pub returns-then-is_representative-clause-image : goal.returns-then-is_representative-clause-image
returns-then-is_representative-clause-image c = sym (turn_first c.args.hand.now (hand_rises c.args.hand.now c.is_representative.ensures.hand)) ∙ ap (λ t. turn t c.args.hand.now) (sym c.first.ensures)

searched : (c : goal.After-least_of_images) → Represented c.args.hand.now
searched c = represented c.args.hand.now (hand_rises c.args.hand.now c.is_representative.ensures.hand)

pub returns-clause-image : goal.returns-clause-image
unfolding representative
returns-clause-image c = c.least_of_images.ensures.representative ∙ ap (λ t. turn t c.args.hand.now) (sym c.least_of_images.ensures.turn)

pub returns-clause-least : goal.returns-clause-least
returns-clause-least c t l = rw c.least_of_images.ensures.representative ((searched c).least t l)

pub returns-clause-first : goal.returns-clause-first
returns-clause-first c t l same = (searched c).first t (subst (λ m. t < m) c.least_of_images.ensures.turn l) (same ∙ c.least_of_images.ensures.representative)
