use Rattle.std.proofs.Common.{◌≡◌, length}
use Rattle.vp_csv.specs.Fields.{more_cards}
use Rattle.vp_csv.proofs.cards.more_cards.Given as goal

abbrev pub invariant-cards : goal.invariant-cards
invariant-cards l = more_cards l.cards.items l.rest ≡ more_cards l.fn.front.items l.fn.text

abbrev pub decreases-cards : goal.decreases-cards
decreases-cards l = length l.rest
