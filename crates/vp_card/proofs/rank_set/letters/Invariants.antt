use Rattle.std.proofs.Common.{◌≡◌, ◌++◌, ◌≤◌, length, drop}
use Rattle.vp_card.specs.Cards.{held}
use Rattle.vp_card.specs.Texts.{rank_letters}
use Rattle.vp_card.proofs.rank_set.letters.Given as goal

abbrev pub invariant-loop-letter : goal.invariant-loop-letter
invariant-loop-letter l = record {
  so_far : l.text.items ++ held l.bits (drop l.letter-index l.letter-items) ≡ held l.set rank_letters;
  room : length l.text.items ≤ l.letter-index;
}
