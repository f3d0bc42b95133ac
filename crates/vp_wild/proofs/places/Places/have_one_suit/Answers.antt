use Rattle.std.proofs.Common.{ap, sym, ◌≡◌, ◌∙◌, ◌<◌, subst}
use Rattle.vp_wild.specs.ByCounts.{at_most_one_suit}
use Rattle.vp_wild.proofs.SuitBits.{one_suit_is, suits_small}
use Rattle.vp_wild.proofs.places.Places.have_one_suit.Goals as goal

pub bounds-suits : goal.bounds-suits
bounds-suits c = rw c.suits.ensures (suits_small c.args.self.now.wild c.args.self.now.bits c.args.cards.now c.args.self.now.told c.requires.set)

pub returns : goal.returns
returns c =
    let small : c.suits.result < 16 = rw c.suits.ensures (suits_small c.args.self.now.wild c.args.self.now.bits c.args.cards.now c.args.self.now.told c.requires.set) in
    one_suit_is c.suits.result small ∙ ap (λ m. at_most_one_suit m) c.suits.ensures
