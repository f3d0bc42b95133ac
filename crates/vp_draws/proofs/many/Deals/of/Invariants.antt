use Rattle.std.proofs.Common.{◌≡◌, ℕ, ◌<◌, [], ◌∷◌, length, slice_index_or}
use Rattle.vp_card.specs.Cards.{IsHand}
use Rattle.vp_draws.specs.Many.{AreMasks, deal_at}
use Rattle.vp_draws.proofs.many.Deals.of.Given as goal

abbrev pub invariant-loop-card : goal.invariant-loop-card
invariant-loop-card l = record {
  room : length l.masks ≡ 54;
  done : (c : ℕ) → c < l.card → AreMasks l.hands (c ∷ []) (slice_index_or l.masks c []);
  hands : 0 < l.card → (k : ℕ) → k < length l.hands → IsHand (deal_at l.hands k);
}
