use Rattle.std.proofs.Common.{ap, arith, get_or, inl, inr, length-set, refl, set, Some, ◌≡◌, ◌∙◌}
use Rattle.std.proofs.lemmas.Bool.{cases_eq}
use Rattle.std.proofs.lemmas.List.{get_or-set_same, get_or-set_other}
use Rattle.vp_wild.proofs.KeptPlaces.{paid_slots}
use Rattle.vp_wild.proofs.kept.pays_of.Goals as goal

pub loop-place-init : goal.loop-place-init
loop-place-init c = record { room = refl; none = refl; told = λ hand place l is. absurd (omega arith) }

pub loop-place-preserved : goal.loop-place-preserved
loop-place-preserved c = record {
  room = length-set c.loop-place.pays c.loop-place.place c.paid.result ∙ c.loop-place.invariant.room;
  none = get_or-set_other c.loop-place.pays c.loop-place.place 32 c.paid.result 0 (λ same. absurd (omega (arith, c.len-place-end.ensures.fits))) ∙ c.loop-place.invariant.none;
  told = λ hand place l is. elim (cases_eq place c.loop-place.place) [
    | inl same ↦
        ap (λ i. get_or (set c.loop-place.pays c.loop-place.place c.paid.result) i 0) same
        ∙ get_or-set_same c.loop-place.pays c.loop-place.place c.paid.result 0 (omega (arith, c.loop-place.invariant.room, c.len-place-end.ensures.fits))
        ∙ c.paid.ensures hand (is ∙ ap (λ i. Some i) same)
    | inr other ↦ get_or-set_other c.loop-place.pays c.loop-place.place place c.paid.result 0 other ∙ c.loop-place.invariant.told hand place (omega arith) is
  ];
}

pub returns : goal.returns
returns c =
    paid_slots c.args.table.now c.args.coin c.loop-place.pays (omega (arith, c.len-place-end.ensures.value, c.len-place-end.ensures.fits))
    (λ hand place l is. c.loop-place.invariant.told hand place (omega (arith, c.len-place-end.ensures.value)) is) c.loop-place.invariant.none
