use Rattle.std.proofs.Common.{◌≡◌, ℕ, ◌<◌, ◌-◌, false}
use Rattle.vp_suit.specs.Turns.{turn}
use Rattle.vp_suit.specs.Classes.{is_representative}
use Rattle.vp_suit.proofs.least.least_of_images.Given as goal

abbrev pub invariant-loop-image : goal.invariant-loop-image
invariant-loop-image l = record {
  image : l.image ≡ turn l.t l.hand;
  inside : l.t < 24;
  before : (s : ℕ) → s < l.t → is_representative (turn s l.hand) ≡ false;
}

abbrev pub decreases-loop-image : goal.decreases-loop-image
decreases-loop-image l = 24 - l.t
