-- Each game is put and added behind those before it.
use Rattle.std.proofs.Common.{rules, ◌<◌, ◌^◌}
use Rattle.vp_replay.proofs.SoFar.{end_added, end_put, next, next_game, stopped}
use Rattle.vp_replay.proofs.replaying.replay.Goals as goal

pub cost-cost-requires-clause-lawful : goal.cost-cost-requires-clause-lawful
cost-cost-requires-clause-lawful g c = (next_game _ _ _ _ c.next.new.self c.in-Some.event _ c.in-Some.ensures.given _ _ c.table-table.ensures.rules c.events-events.ensures.few c.loop-event.invariant).lawful

pub returns-in_err-put_game-clause-puts : goal.returns-in_err-put_game-clause-puts
returns-in_err-put_game-clause-puts g c =
    stopped c.args.games.now c.args.show c.args.log.now c.loop-event.events c.next.new.self c.in-Some.event c.loop-event.summary c.in-Some.ensures.given c.cost-cost.result _ _ _ _ _ _ c.cost-cost.ensures.value c.in_err-put_game.was c.from_residual.ensures.0 c.put_game.ensures c.loop-event.invariant

pub added-summary-requires-clause-bet : goal.added-summary-requires-clause-bet
added-summary-requires-clause-bet g c = (next_game _ _ _ _ c.next.new.self c.in-Some.event _ c.in-Some.ensures.given _ _ c.table-table.ensures.rules c.events-events.ensures.few c.loop-event.invariant).bet

pub added-summary-requires-clause-paid : goal.added-summary-requires-clause-paid
added-summary-requires-clause-paid g c = (next_game _ _ _ _ c.next.new.self c.in-Some.event _ c.in-Some.ensures.given _ _ c.table-table.ensures.rules c.events-events.ensures.few c.loop-event.invariant).pays

pub loop-event-preserved : goal.loop-event-preserved
loop-event-preserved g c =
    let small : c.cost-cost.result < 2 ^ 64 = search rules in
    next c.args.games.now c.args.show c.args.log.now c.loop-event.events c.next.new.self c.in-Some.event c.loop-event.summary c.in-Some.ensures.given c.added-summary.result c.cost-cost.result _ _ _ _ _ c.table-table.ensures.rules c.events-events.ensures.few c.cost-cost.ensures.value small c.in_ok-put_game.was c.put_game.ensures c.added-summary.ensures c.loop-event.invariant

pub returns-clause-puts : goal.returns-clause-puts
returns-clause-puts g c = end_put c.args.games.now c.args.show c.args.log.now c.loop-event.events c.loop-event.summary _ _ c.loop-event.summary c.in_default.ensures.end c.loop-event.invariant

pub returns-clause-summary : goal.returns-clause-summary
returns-clause-summary g c = end_added c.args.games.now c.args.show c.args.log.now c.loop-event.events c.loop-event.summary _ _ c.in_default.ensures.end c.loop-event.invariant
