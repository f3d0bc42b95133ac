-- Each game is added behind those before it.
use Rattle.std.proofs.Common.{rules, ◌<◌, ◌^◌}
use Rattle.vp_replay.proofs.Quiet.{next_added, next_bet, room_for_next}
use Rattle.vp_replay.proofs.SoFar.{end_added}
use Rattle.vp_replay.proofs.replaying.summary_at.Goals as goal

pub cost_at-cost-requires-clause-lawful : goal.cost_at-cost-requires-clause-lawful
cost_at-cost-requires-clause-lawful c = (room_for_next _ _ _ c.next.new.self c.in-Some.event _ c.in-Some.ensures.given c.table-table.ensures.rules c.events-events.ensures.few c.loop-event.invariant.so_far).lawful

pub added-summary-requires-clause-bet : goal.added-summary-requires-clause-bet
added-summary-requires-clause-bet c = (room_for_next _ _ _ c.next.new.self c.in-Some.event _ c.in-Some.ensures.given c.table-table.ensures.rules c.events-events.ensures.few c.loop-event.invariant.so_far).bet

pub added-summary-requires-clause-paid : goal.added-summary-requires-clause-paid
added-summary-requires-clause-paid c = (room_for_next _ _ _ c.next.new.self c.in-Some.event _ c.in-Some.ensures.given c.table-table.ensures.rules c.events-events.ensures.few c.loop-event.invariant.so_far).pays

pub loop-event-preserved : goal.loop-event-preserved
loop-event-preserved c =
    let small : c.cost_at-cost.result < 2 ^ 64 = search rules in
    record {
      so_far = next_added c.args.game.now.table c.args.log.now c.loop-event.events c.next.new.self c.in-Some.event c.loop-event.summary c.added-summary.result c.cost_at-cost.result
          c.in-Some.ensures.given c.table-table.ensures.rules c.events-events.ensures.few c.cost_at-cost.ensures.value small c.added-summary.ensures c.loop-event.invariant.so_far;
      bets = (next_bet c.args.game.now.coin c.loop-event.events c.next.new.self c.in-Some.event c.in-Some.ensures.given c.loop-event.invariant.bets).1;
    }

pub returns : goal.returns
returns c = end_added c.args.game.now.table _ c.args.log.now c.loop-event.events c.loop-event.summary _ _ c.in_default.ensures.end c.loop-event.invariant.so_far
