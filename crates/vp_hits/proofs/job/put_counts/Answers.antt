-- The lines of the pay lines are put, and then the two behind them.
use Rattle.std.proofs.Common.{List, ap, arith}
use Rattle.std.specs.Prelude.{slice_index}
use Rattle.vp_io.proofs.Puts_laws.{Puts_as, Puts_stopped, Puts_then}
use Rattle.vp_pay.specs.declared.table.PayLine.{PayLine}
use Rattle.vp_text.specs.Written.{written}
use Rattle.vp_hits.specs.HitsJob.{hit_lines}
use Rattle.vp_hits.proofs.HitLines.{hits_text}
use Rattle.vp_hits.proofs.job.put_counts.Goals as goal

pub put_hits-requires-clause-few : goal.put_hits-requires-clause-few
put_hits-requires-clause-few g c = rw c.as_slice.ensures.value (omega (arith, c.requires.bet.rules.most_lines))

pub returns-in_err-put_hits : goal.returns-in_err-put_hits
returns-in_err-put_hits g c =
    let hits = Puts_as (ap (λ (ls : List PayLine). written (hit_lines (slice_index c.args.counts.now.lines) c.args.coin c.return_denominator-all.result 0 ls)) c.as_slice.ensures.value) c.put_hits.ensures in
    Puts_as (hits_text (record { table = c.args.table.now; coin = c.args.coin }) (slice_index c.args.counts.now.lines) _ _ _ _ c.return_denominator-all.ensures c.return_denominator-under.ensures c.requires.lines c.requires.none c.requires.value)
    (Puts_stopped _ c.in_err-put_hits.was c.from_residual.ensures.0 hits)

pub returns : goal.returns
returns g c =
    let hits = Puts_as (ap (λ (ls : List PayLine). written (hit_lines (slice_index c.args.counts.now.lines) c.args.coin c.return_denominator-all.result 0 ls)) c.as_slice.ensures.value) c.put_hits.ensures in
    Puts_as (hits_text (record { table = c.args.table.now; coin = c.args.coin }) (slice_index c.args.counts.now.lines) _ _ _ _ c.return_denominator-all.ensures c.return_denominator-under.ensures c.requires.lines c.requires.none c.requires.value)
    (Puts_then _ c.in_ok-put_hits.was hits c.put_ends.ensures)
