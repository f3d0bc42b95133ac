use Rattle.std.proofs.Common.{◌≡◌, ℕ, ◌<◌, [], ◌∷◌, length, slice_index}
use Rattle.vp_card.specs.Cards.{IsHand}
use Rattle.vp_sets.specs.Draws.{mask_of}
use Rattle.vp_draws.specs.Many.{deal_at}
use Rattle.vp_draws.proofs.many.masks_of.Given as goal

abbrev pub invariant-loop-k : goal.invariant-loop-k
invariant-loop-k l = record {
  room : length l.masks ≡ 256;
  done : (k : ℕ) → k < l.k → slice_index l.masks k ≡ mask_of (l.card ∷ []) (deal_at l.hands k);
  hands : (k : ℕ) → k < l.k → IsHand (deal_at l.hands k);
}
