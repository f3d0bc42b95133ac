-- The values of holds come from the two tables of means.
use Rattle.std.proofs.Common.{◌≡◌, ℕ, ◌+◌, ◌*◌, ◌-◌, true, List, length, map, ap, refl, subst, sym, ◌∙◌, arith}
use Rattle.vp_card.specs.Cards.{in_deck, IsHand}
use Rattle.vp_sets.specs.Draws.{discarded, scale, sum_over_draws}
use Rattle.vp_draws.specs.Draws.{masks, total, value}
use Rattle.vp_count.specs.Table.{Table}
use Rattle.vp_hold.specs.Means.{mean}
use Rattle.vp_hold.proofs.ScaledSums.{mean_of, of_sums}
use Rattle.vp_hold.proofs.Values.{value_at}
use Rattle.vp_meter.specs.declared.hold_lines.HoldLines.{HoldLines}
use Rattle.vp_meter.specs.Metered.{with_payment, base_pay, hit, Metering}
use Rattle.vp_meter.specs.TwoMeans.{IsMetered}
use Rattle.vp_meter.specs.LinesOfHolds.{AreLines}
use Rattle.vp_meter.specs.Segments.{worth, rise}
use Rattle.vp_meter.proofs.Straight.{total_changed, line_of_values}

-- what the means b and h of a hold are
pub record PartsAre (m : Metering) (hand : List ℕ) (mask b h : ℕ) : Type 0 where
  pub base : b ≡ value (with_payment m.table m.coin m.place 0) m.coin hand mask
  pub slope : b + h ≡ value (with_payment m.table m.coin m.place 1) m.coin hand mask
  pub line : (x : ℕ) → value (with_payment m.table m.coin m.place x) m.coin hand mask ≡ b + x * h

pub parts_are : (m own : Metering) (one two : Table) (hand : List ℕ) (mask b h : ℕ) → own ≡ m → IsMetered own one two → IsHand hand → in_deck m.table.deck hand ≡ true
    → b ≡ mean one hand mask → h ≡ mean two hand mask → PartsAre m hand mask b h
unfolding value with_payment
parts_are m own one two hand mask b h e made cards d is_b is_h =
    let is : IsMetered m one two = subst (λ (b : Metering). IsMetered b one two) e made in
    let bet = is.metering.bet in
    let inside = is.metering.inside in
    let k : ℕ = scale m.table.deck (length (discarded mask hand)) in
    let base : ℕ = sum_over_draws (base_pay m.table m.coin m.place) m.table.deck hand mask in
    let hits : ℕ = sum_over_draws (hit m.table m.place) m.table.deck hand mask in
    let base_is : b ≡ base * k = is_b ∙ mean_of m.table.deck (base_pay m.table m.coin m.place) one hand mask is.base cards d in
    let hits_is : h ≡ hits * k = is_h ∙ mean_of m.table.deck (hit m.table m.place) two hand mask is.hits cards d in
    let scaled : (x : ℕ) → total (with_payment m.table m.coin m.place x) m.coin hand mask * k ≡ b + x * h =
    λ x. ap (λ t. t * k) (total_changed m.coin m.place x mask m.table hand bet inside) ∙ times base x hits k ∙ rw (← base_is, ← hits_is) refl in
    record { base = sym (scaled 0 ∙ none _ _); slope = sym (scaled 1 ∙ once _ _); line = scaled }
  where
    times : (b x h k : ℕ) → (b + x * h) * k ≡ b * k + x * (h * k)
    times b x h k = omega arith

    none : (a b : ℕ) → a + 0 * b ≡ a
    none a b = omega arith

    once : (a b : ℕ) → a + 1 * b ≡ a + b
    once a b = omega arith

module _ (m own : Metering) (one two : Table) (hand : List ℕ) (e : own ≡ m) (made : IsMetered own one two) (d : in_deck m.table.deck hand ≡ true) where
  is : IsMetered m one two
  is = subst (λ (b : Metering). IsMetered b one two) e made

  pub in_base : in_deck one.size hand ≡ true
  in_base = of_sums m.table.deck (base_pay m.table m.coin m.place) one hand is.base d

  pub in_hits : in_deck two.size hand ≡ true
  in_hits = of_sums m.table.deck (hit m.table m.place) two hand is.hits d

  pub lines_are : (lines : HoldLines) → IsHand hand → lines.bases ≡ map (mean one hand) masks → lines.slopes ≡ map (mean two hand) masks → AreLines (worth m hand) lines
  unfolding worth rise
  lines_are lines h bases slopes = record {
    bases = λ mask l. value_at (mean one hand) mask lines.bases l bases ∙ (parts_are m own one two hand mask _ _ e made h d refl refl).base;
    slopes = λ mask l. let p = parts_are m own one two hand mask _ _ e made h d refl refl in value_at (mean two hand) mask lines.slopes l slopes ∙ gap _ _ _ _ p.base (sym p.slope);
    straight = λ x mask. line_of_values m.coin m.place x mask m.table hand is.metering.bet is.metering.inside;
  }
    where
      gap : (a b v u : ℕ) → a ≡ v → u ≡ a + b → b ≡ u - v
      gap a b v u e f = omega arith
