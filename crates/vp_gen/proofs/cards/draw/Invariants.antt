use Rattle.std.proofs.Common.{◌≡◌, ◌+◌, ◌≤◌, length}
use Rattle.vp_gen.specs.Generator.{drawn}
use Rattle.vp_gen.proofs.Drawing.{behind_cards}
use Rattle.vp_gen.proofs.cards.draw.Given as goal

abbrev pub invariant-cards : goal.invariant-cards
invariant-cards l = record {
  so_far : behind_cards l.cards.items (drawn l.left l.state l.rest.items) ≡ drawn l.fn.count l.fn.state l.fn.rest.items;
  count : length l.cards.items + l.left ≡ l.fn.count;
  room : l.left ≤ length l.rest.items;
}

abbrev pub decreases-cards : goal.decreases-cards
decreases-cards l = l.left
