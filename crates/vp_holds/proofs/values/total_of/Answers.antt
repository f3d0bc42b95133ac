use Rattle.std.proofs.Common.{◌≡◌, ℕ, ◌<◌, ◌+◌, ◌*◌, List, length, get_or, arith, ap, refl, sym, ◌∙◌}
use Rattle.std.specs.Prelude.{slice_index}
use Rattle.vp_pay.specs.declared.table.PayLine.{PayLine}
use Rattle.vp_sets.proofs.Sums.{no_place}
use Rattle.vp_holds.specs.Holds.{line_pays}
use Rattle.vp_holds.proofs.LineShares.{next_place, pay_of, sum_grows}
use Rattle.vp_holds.proofs.values.total_of.Goals as goal

pub loop-place-init : goal.loop-place-init
loop-place-init c = sym (no_place (λ place. slice_index (line_pays c.args.table.now c.args.coin) place * slice_index c.args.row.now place))

pub overflow_add-total : goal.overflow_add-total
overflow_add-total c =
    let f : ℕ → ℕ = λ place. slice_index (line_pays c.args.table.now c.args.coin) place * slice_index c.args.row.now place in
    let place = c.loop-place.place in
    let line = c.index-deref-place.result in
    let inside : place < length c.args.table.now.lines.items = omega (arith, c.loop-place-test.true, c.len-place-end.ensures.value) in
    let is : line ≡ get_or c.args.table.now.lines.items place line = c.index-deref-place.is ∙ ap (λ (ls : List PayLine). get_or ls place line) c.deref.ensures.0 in
    let pays : c.from-in-loop-place.result ≡ slice_index (line_pays c.args.table.now c.args.coin) place =
    c.from-in-loop-place.ensures ∙ ap (λ (r : PayLine). slice_index r.pays c.from.result) (sym c.index-deref-place.is) ∙ ap (slice_index line.pays) c.from.ensures ∙ pay_of c.args.table.now c.args.coin place line inside is in
    let whole : c.from-in-loop-place.result * c.from-in-loop-place-2.result ≡ f place = rw (pays, c.from-in-loop-place-2.ensures) refl in
    omega (arith, whole, c.loop-place.invariant, next_place f place, sum_grows f (place + 1) (length c.args.table.now.lines.items) (omega (arith, inside)), c.requires.room)

pub loop-place-preserved : goal.loop-place-preserved
loop-place-preserved c =
    let f : ℕ → ℕ = λ place. slice_index (line_pays c.args.table.now c.args.coin) place * slice_index c.args.row.now place in
    let place = c.loop-place.place in
    let line = c.index-deref-place.result in
    let inside : place < length c.args.table.now.lines.items = omega (arith, c.loop-place-test.true, c.len-place-end.ensures.value) in
    let is : line ≡ get_or c.args.table.now.lines.items place line = c.index-deref-place.is ∙ ap (λ (ls : List PayLine). get_or ls place line) c.deref.ensures.0 in
    let pays : c.from-in-loop-place.result ≡ slice_index (line_pays c.args.table.now c.args.coin) place =
    c.from-in-loop-place.ensures ∙ ap (λ (r : PayLine). slice_index r.pays c.from.result) (sym c.index-deref-place.is) ∙ ap (slice_index line.pays) c.from.ensures ∙ pay_of c.args.table.now c.args.coin place line inside is in
    let whole : c.from-in-loop-place.result * c.from-in-loop-place-2.result ≡ f place = rw (pays, c.from-in-loop-place-2.ensures) refl in
    omega (arith, whole, c.loop-place.invariant, next_place f place)
