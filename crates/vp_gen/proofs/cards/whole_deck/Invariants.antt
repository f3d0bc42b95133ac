use Rattle.std.proofs.Common.{◌≡◌, length}
use Rattle.vp_sets.specs.Sets.{deck}
use Rattle.vp_gen.proofs.cards.whole_deck.Given as goal

abbrev pub invariant-loop-number : goal.invariant-loop-number
invariant-loop-number l = record {
  so_far : l.cards.items ≡ deck l.number;
  count : length l.cards.items ≡ l.number;
}
