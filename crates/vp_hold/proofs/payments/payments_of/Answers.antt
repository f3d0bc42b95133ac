use Rattle.std.proofs.Common.{ap, arith, get_or, inl, inr, length-set, refl, set, Some, ◌∙◌, ◌<◌, ◌≤◌}
use Rattle.std.proofs.lemmas.Bool.{cases_eq}
use Rattle.std.proofs.lemmas.List.{get_or-set_same, get_or-set_other}
use Rattle.std.proofs.lemmas.List.Elements.{All-replicate, All-set}
use Rattle.vp_hold.proofs.Numbers.{paid_told}
use Rattle.vp_hold.proofs.payments.payments_of.Goals as goal

pub loop-place-init : goal.loop-place-init
loop-place-init c = record { room = refl; bounded = All-replicate (λ x. x ≤ 250000000000) 33 0 (omega arith); none = refl; paid = λ hand place l is. absurd (omega arith) }

pub loop-place-preserved : goal.loop-place-preserved
loop-place-preserved c =
    let inside : c.loop-place.place < 32 = omega (arith, c.len-place-end.ensures.fits) in
    record {
      room = length-set c.loop-place.pays c.loop-place.place c.from.result ∙ c.loop-place.invariant.room;
      bounded = All-set (λ x. x ≤ 250000000000) c.loop-place.pays c.loop-place.place c.from.result (omega (arith, c.from.ensures, c.paid.type_inv)) c.loop-place.invariant.bounded;
      none = get_or-set_other c.loop-place.pays c.loop-place.place 32 c.from.result 0 (λ same. absurd (omega (arith, inside))) ∙ c.loop-place.invariant.none;
      paid = λ hand place l is. elim (cases_eq place c.loop-place.place) [
        | inl same ↦
            ap (λ i. get_or (set c.loop-place.pays c.loop-place.place c.from.result) i 0) same
            ∙ get_or-set_same c.loop-place.pays c.loop-place.place c.from.result 0 (omega (arith, c.loop-place.invariant.room, inside))
            ∙ c.from.ensures ∙ c.paid.ensures hand (is ∙ ap (λ i. Some i) same)
        | inr other ↦ get_or-set_other c.loop-place.pays c.loop-place.place place c.from.result 0 other ∙ c.loop-place.invariant.paid hand place (omega arith) is
      ];
    }

pub returns-clause-paid : goal.returns-clause-paid
returns-clause-paid c hand =
    paid_told c.args.table.now c.args.coin c.loop-place.pays hand
    (λ place l is. c.loop-place.invariant.paid hand place (omega (arith, c.len-place-end.ensures.value)) is) c.loop-place.invariant.none
