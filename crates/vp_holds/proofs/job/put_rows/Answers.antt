-- Each hold is put behind those before it.
use Rattle.std.proofs.Common.{◌≡◌, ◌<◌, ℕ, List, length, get_or, ap, arith, sym, subst, ◌∙◌}
use Rattle.std.specs.Prelude.{slice_index, map}
use Rattle.vp_io.proofs.PutSoFar.{put_all, put_halted, put_more}
use Rattle.vp_io.proofs.Puts_laws.{Puts_as}
use Rattle.vp_text.specs.Written.{line_of, written}
use Rattle.vp_draws.specs.Draws.{value}
use Rattle.vp_deal.specs.Deal.{Dealt}
use Rattle.vp_holds.specs.Holds.{hold_line}
use Rattle.vp_holds.specs.Ranking.{ranked}
use Rattle.vp_holds.proofs.HoldLines.{holds_left, no_holds_left}
use Rattle.vp_holds.proofs.Ranked.{all_at, ranked_agree, ranked_length, ranked_small}
use Rattle.vp_holds.proofs.job.put_rows.Goals as goal

pub put_hold-requires-clause-mask : goal.put_hold-requires-clause-mask
put_hold-requires-clause-mask g c =
    let f = slice_index c.args.values.now in
    let same : c.deref.result.now ≡ ranked f 32 = c.deref.ensures.0 ∙ c.ranked-masks.ensures in
    let long : length c.ranked-masks.result.items ≡ 32 = ap (λ (ms : List ℕ). length ms) c.ranked-masks.ensures ∙ ranked_length f 32 in
    let inside : c.loop-place.place < length (ranked f 32) = omega (arith, long, ranked_length f 32, c.loop-place-test.true, c.len-place-end.ensures.value) in
    subst (λ (ms : List ℕ). get_or ms c.loop-place.place 0 < 32) (sym same) (all_at (λ m. m < 32) (ranked f 32) (ranked_small f 32) c.loop-place.place inside)

pub returns-in_err-put_hold : goal.returns-in_err-put_hold
returns-in_err-put_hold g c =
    let d : Dealt = record { table = c.args.table.now; coin = c.args.coin; hand = c.args.hand.now } in
    let masks = c.ranked-masks.result.items in
    let low : c.loop-place.place < length masks = omega (arith, c.loop-place-test.true, c.len-place-end.ensures.value) in
    let order : masks ≡ ranked (value d.table d.coin d.hand) 32 = c.ranked-masks.ensures ∙ ranked_agree (slice_index c.args.values.now) (value d.table d.coin d.hand) 32 c.requires.values in
    let hold = Puts_as (ap (λ (ms : List ℕ). line_of (hold_line d (get_or ms c.loop-place.place 0))) c.deref.ensures.0) c.put_hold.ensures in
    Puts_as (ap (λ (ms : List ℕ). written (map (hold_line d) ms)) order)
    (put_halted _ (holds_left (hold_line d) masks c.loop-place.place 0 low) c.in_err-put_hold.was c.from_residual.ensures.0 hold c.loop-place.invariant)

pub loop-place-preserved : goal.loop-place-preserved
loop-place-preserved g c =
    let d : Dealt = record { table = c.args.table.now; coin = c.args.coin; hand = c.args.hand.now } in
    let masks = c.ranked-masks.result.items in
    let low : c.loop-place.place < length masks = omega (arith, c.loop-place-test.true, c.len-place-end.ensures.value) in
    let hold = Puts_as (ap (λ (ms : List ℕ). line_of (hold_line d (get_or ms c.loop-place.place 0))) c.deref.ensures.0) c.put_hold.ensures in
    put_more (holds_left (hold_line d) masks c.loop-place.place 0 low) c.in_ok-put_hold.was hold c.loop-place.invariant

pub returns : goal.returns
returns g c =
    let d : Dealt = record { table = c.args.table.now; coin = c.args.coin; hand = c.args.hand.now } in
    let masks = c.ranked-masks.result.items in
    let order : masks ≡ ranked (value d.table d.coin d.hand) 32 = c.ranked-masks.ensures ∙ ranked_agree (slice_index c.args.values.now) (value d.table d.coin d.hand) 32 c.requires.values in
    Puts_as (ap (λ (ms : List ℕ). written (map (hold_line d) ms)) order)
    (put_all (no_holds_left (hold_line d) masks c.loop-place.place (omega (arith, c.loop-place-test.false, c.len-place-end.ensures.value))) c.loop-place.invariant)
