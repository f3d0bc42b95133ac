use Rattle.std.proofs.Common.{arith, get_or, inl, inr, length-set, refl, set, ap, sym, ◌∙◌}
use Rattle.std.proofs.lemmas.List.{get_or-set_same, get_or-set_other}
use Rattle.vp_meter.proofs.LineNumbers.{places_are}
use Rattle.vp_meter.proofs.Straight.{equal_or_not}
use Rattle.vp_meter.proofs.hand_numbers.line_places.Goals as goal

pub loop-place-init : goal.loop-place-init
loop-place-init c = record { long = refl; each = λ i l. absurd (omega arith) }

pub loop-place-preserved : goal.loop-place-preserved
loop-place-preserved c = record {
  long = length-set c.loop-place.places c.loop-place.place c.loop-place.place ∙ c.loop-place.invariant.long;
  each = λ i l. elim (equal_or_not i c.loop-place.place) [
    | inl same ↦
        ap (λ k. get_or (set c.loop-place.places c.loop-place.place c.loop-place.place) k 0) same
        ∙ get_or-set_same c.loop-place.places c.loop-place.place c.loop-place.place 0 (omega (arith, c.loop-place.invariant.long)) ∙ sym same
    | inr other ↦ get_or-set_other c.loop-place.places c.loop-place.place i c.loop-place.place 0 other ∙ c.loop-place.invariant.each i (omega arith)
  ];
}

pub returns : goal.returns
returns c = places_are c.loop-place.places c.loop-place.invariant.long (λ i l. c.loop-place.invariant.each i (omega arith))
