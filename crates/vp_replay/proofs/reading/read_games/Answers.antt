-- Each game is asked behind those before it.
use Rattle.std.proofs.Common.{◌≡◌, ◌+◌, ◌∷◌, None, arith, ap, sym, ◌∙◌, length}
use Rattle.vp_loggram.specs.Sections.{events_in_front}
use Rattle.vp_loggram.proofs.Next_games.{end_read, game_read}
use Rattle.vp_replay.specs.Rules.{break_of, or_later}
use Rattle.vp_replay.specs.Seeking.{sooner}
use Rattle.vp_replay.proofs.Seeking.{credits_next, no_more, one_more}
use Rattle.vp_replay.proofs.reading.read_games.Goals as goal

pub loop-event-preserved : goal.loop-event-preserved
loop-event-preserved g c =
    let i = c.loop-event.invariant in
    let n = c.table.result.now.deck in
    let game = game_read n c.loop-event.lines c.next_game.new.lines c.in_ok-event.field-0 c.in-Some.event c.in-Some.is c.in_ok-event.ensures.read in
    let next : c.sooner-found.result ≡ sooner c.loop-event.found (or_later (break_of c.args.kept.now c.loop-event.credits c.in-Some.event) (c.loop-event.games + 1) None) =
    rw i.kept at c.sooner-found.ensures.sooner in
    let fewer : length (events_in_front n c.loop-event.lines.lines) ≡ length (c.in-Some.event ∷ events_in_front n c.next_game.new.lines.lines) = ap length game.front in
    record {
      so_far = one_more c.args.kept.now (c.loop-event.games + 1) c.loop-event.credits (events_in_front n c.loop-event.lines.lines) (events_in_front n c.next_game.new.lines.lines) c.in-Some.event c.loop-event.found
          c.sooner-found.result _ game.front next i.so_far;
      skipped = sym game.skipped ∙ i.skipped;
      count = omega (arith, fewer, i.count);
      credits = credits_next c.loop-event.found c.sooner-found.result c.loop-event.credits c.in-Some.event.credits c.loop-event.games c.sooner-found.ensures.none c.sooner-found.ensures.kept i.credits;
      kept = c.sooner-found.ensures.same ∙ i.kept;
    }

pub returns-clause-broken : goal.returns-clause-broken
returns-clause-broken g c =
    let none = (end_read c.table.result.now.deck c.loop-event.lines c.next_game.new.lines c.in_ok-event.field-0 c.in_default.is c.in_ok-event.ensures.read).front in
    no_more c.args.kept.now (c.loop-event.games + 1) c.loop-event.credits _ c.loop-event.found _ none c.loop-event.invariant.so_far
