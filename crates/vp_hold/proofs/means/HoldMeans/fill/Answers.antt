use Rattle.std.proofs.Common.{ℕ, ◌≤◌, List, subst, sym}
use Rattle.std.specs.List.{All}
use Rattle.vp_card.specs.Cards.{IsDeck}
use Rattle.vp_hold.specs.Means.{AreScales}
use Rattle.vp_hold.proofs.means.HoldMeans.fill.Goals as goal

pub invariant_of-result : goal.invariant_of-result
invariant_of-result c = record {
  deck = subst (λ n. IsDeck n) (sym c.fill.ensures.size) c.requires.deck;
  scaled = subst (λ n. AreScales n c.hold_scales.result) (sym c.fill.ensures.size) c.hold_scales.ensures;
  bounded = subst (λ (w : List ℕ). All (λ x. x ≤ 250000000000) w) (sym c.fill.ensures.numbers) c.requires.bounded;
}
