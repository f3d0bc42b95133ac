use Rattle.std.proofs.Common.{◌≡◌, ◌+◌, ◌*◌, ◌^◌, ◌<◌, drop}
use Rattle.std.specs.Prelude.{option_map}
use Rattle.vp_card.specs.Reading.{bits_of}
use Rattle.vp_card.specs.Texts.{rank_letters}
use Rattle.vp_card.proofs.rank_set.bits_of.Given as goal

abbrev pub invariant-loop-letter : goal.invariant-loop-letter
invariant-loop-letter l = record {
  so_far : option_map (λ s. l.bits + l.bit * s) (bits_of (drop l.letter-index l.letter-items) l.rest) ≡ bits_of rank_letters l.text;
  below : l.bits < l.bit;
  bit : l.bit ≡ 2 ^ l.letter-index;
}
