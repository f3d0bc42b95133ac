use Rattle.std.proofs.Common.{ap, refl, ◌+◌, ◌*◌, ◌≡◌, ◌∙◌, Bool, true, false, cond}
use Rattle.vp_wild.proofs.KeptPlaces.{place_is}
use Rattle.vp_wild.proofs.places.Places.place_of.Goals as goal

flag : (b : Bool) → mir.Val.bool_byte b ≡ cond b 1 0
flag true = refl
flag false = refl

pub returns-clause-place : goal.returns-clause-place
returns-clause-place c =
    place_is c.args.self.now.wild c.args.self.now.bits c.args.cards.now c.have_one_suit.result c.ranks_index.result (2 * c.ranks_index.result + c.from.result) c.args.self.now.told c.requires.set c.have_one_suit.ensures c.ranks_index.ensures.index
    (ap (λ m. 2 * c.ranks_index.result + m) (c.from.ensures ∙ flag c.have_one_suit.result))
