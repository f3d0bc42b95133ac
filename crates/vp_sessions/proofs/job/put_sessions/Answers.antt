-- The lines of each session are put behind those before it, and it is counted where it is unlawful.
use Rattle.std.proofs.Common.{[], arith, refl, ◌∙◌}
use Rattle.vp_io.proofs.PutSoFar.{put_all, put_halted, put_more, put_same, put_start}
use Rattle.vp_sessions.proofs.SessionLines.{all_left, counted_all, counted_next, counted_none, last_left, session_next}
use Rattle.vp_sessions.proofs.job.put_sessions.Goals as goal

pub loop-place-init : goal.loop-place-init
loop-place-init g c = record { put = put_same (all_left c.args.games.now c.args.sessions.now.sessions) (put_start _ _); unlawful = counted_none _ _; kept = c.new-kept.ensures ∙ c.table-table.ensures.table }

pub returns-in_err-put_session-clause-puts : goal.returns-in_err-put_session-clause-puts
returns-in_err-put_session-clause-puts g c =
    put_halted _ (session_next c.args.games.now c.args.sessions.now c.loop-place.place c.name.result.now c.log_at-log.result.0 (omega (arith, c.loop-place-test.true, c.count-count.ensures.value)) c.name.ensures c.log_at-log.ensures.log)
    c.in_err-put_session.was c.from_residual.ensures.0 c.put_session.ensures c.loop-place.invariant.put

pub loop-place-preserved : goal.loop-place-preserved
loop-place-preserved g c = record {
  put = put_more (session_next c.args.games.now c.args.sessions.now c.loop-place.place c.name.result.now c.log_at-log.result.0 (omega (arith, c.loop-place-test.true, c.count-count.ensures.value)) c.name.ensures c.log_at-log.ensures.log)
      c.in_ok-put_session.was c.put_session.ensures c.loop-place.invariant.put;
  unlawful = counted_next c.args.games.now c.args.sessions.now c.loop-place.place c.loop-place.unlawful c.counted-unlawful.result c.log_at-log.result.0 c.log_at-log.result.1
      (omega (arith, c.loop-place-test.true, c.count-count.ensures.value)) c.log_at-log.ensures.log (rw (c.loop-place.invariant.kept) at c.log_at-log.ensures.broken) c.counted-unlawful.ensures c.loop-place.invariant.unlawful;
  kept = c.log_at-log.ensures.same ∙ c.loop-place.invariant.kept;
}

pub returns-in_err-put_count-clause-puts : goal.returns-in_err-put_count-clause-puts
returns-in_err-put_count-clause-puts g c =
    put_halted [] (last_left c.args.games.now c.args.sessions.now.sessions c.loop-place.place c.count-count.result c.loop-place.unlawful (omega arith) c.count-count.ensures.value c.loop-place.invariant.unlawful)
    c.in_err-put_count.was c.from_residual-in_err-put_count.ensures.0 c.put_count.ensures c.loop-place.invariant.put

pub returns-clause-puts : goal.returns-clause-puts
returns-clause-puts g c =
    put_all refl (put_more (last_left c.args.games.now c.args.sessions.now.sessions c.loop-place.place c.count-count.result c.loop-place.unlawful (omega arith) c.count-count.ensures.value c.loop-place.invariant.unlawful)
    c.in_ok-put_count.was c.put_count.ensures c.loop-place.invariant.put)

pub returns-clause-unlawful : goal.returns-clause-unlawful
returns-clause-unlawful g c = counted_all c.args.games.now c.args.sessions.now.sessions c.loop-place.place c.loop-place.unlawful (omega arith) c.loop-place.invariant.unlawful
