use Rattle.std.proofs.Common.{◌≡◌, ◌≤◌, length, []}
use Rattle.vp_card.specs.Reading.{card_of}
use Rattle.vp_text.specs.Pieces.{up_to}
use Rattle.vp_loggram.proofs.words.cards_up_to.Given as goal

abbrev pub invariant-cards : goal.invariant-cards
invariant-cards l = record {
  so_far : up_to card_of 5 l.key l.cards.items l.words.words ≡ up_to card_of 5 l.key [] l.fn.words.words;
  room : length l.cards.items ≤ 5;
}

abbrev pub decreases-cards : goal.decreases-cards
decreases-cards l = length l.words.words
