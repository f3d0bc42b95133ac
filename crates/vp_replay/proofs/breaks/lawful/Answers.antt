-- One more game, and none.
use Rattle.std.proofs.Common.{◌≡◌, ◌+◌, ◌∷◌, [], None, arith, sym, ◌∙◌, ap, length, Some}
use Rattle.vp_replay.specs.Rules.{break_of, or_later}
use Rattle.vp_replay.proofs.Runs.{ends_game, goes_game, stops_game}
use Rattle.vp_replay.proofs.breaks.lawful.Goals as goal

pub returns-in-Some-broken_at-clause-broken : goal.returns-in-Some-broken_at-clause-broken
returns-in-Some-broken_at-clause-broken g c =
    let split : c.loop-event.events ≡ c.in-Some.event ∷ c.next.new.self = c.in-Some.ensures.given in
    let bad : or_later (break_of c.args.table.now c.loop-event.credits c.in-Some.event) (c.loop-event.games + 1) None ≡ Some c.in-Some-broken_at.broken =
    rw c.loop-event.invariant.kept at (sym c.broken_at.ensures.broken ∙ c.in-Some-broken_at.is) in
    stops_game c.args.table.now (c.loop-event.games + 1) c.loop-event.credits c.loop-event.events c.next.new.self c.in-Some.event c.in-Some-broken_at.broken _ split bad c.loop-event.invariant.so_far

pub loop-event-preserved : goal.loop-event-preserved
loop-event-preserved g c =
    let i = c.loop-event.invariant in
    let split : c.loop-event.events ≡ c.in-Some.event ∷ c.next.new.self = c.in-Some.ensures.given in
    let fine : or_later (break_of c.args.table.now c.loop-event.credits c.in-Some.event) (c.loop-event.games + 1) None ≡ None =
    rw i.kept at (sym c.broken_at.ensures.broken ∙ c.in_default-broken_at.is) in
    let more = c.in_default-broken_at.ensures.kept in
    let one = c.in_default-broken_at.ensures.steps in
    let l : length c.loop-event.events ≡ length (c.in-Some.event ∷ c.next.new.self) = ap length split in
    record {
      so_far = goes_game c.args.table.now (c.loop-event.games + 1) c.loop-event.credits c.loop-event.events c.next.new.self c.in-Some.event _ split fine i.so_far;
      count = omega arith;
      credits = omega arith;
      ranked = omega arith;
      kept = c.broken_at.ensures.same ∙ i.kept;
    }

pub returns-clause-lawful : goal.returns-clause-lawful
returns-clause-lawful g c =
    let none : c.loop-event.events ≡ [] = c.in_default.ensures.end in
    ends_game c.args.table.now (c.loop-event.games + 1) c.loop-event.credits c.loop-event.events _ none c.loop-event.invariant.so_far
