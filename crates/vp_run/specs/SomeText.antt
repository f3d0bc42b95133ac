-- No job has an empty text.
use Rattle.std.specs.Prelude.{◌<◌, length}
use Rattle.vp_run.specs.Answer.{heap_due, lent_due}
use Rattle.vp_deal.specs.Deal.{deal_some}
use Rattle.vp_holds.specs.Holds.{holds_some}
use Rattle.vp_cert.specs.Certify.{certify_some}
use Rattle.vp_audit.specs.Audit.{audit_some}
use Rattle.vp_cross.specs.Cross.{cross_some}
use Rattle.vp_check.specs.CheckJob.{checked_some}
use Rattle.vp_replay.specs.Replay.{replay_some}
use Rattle.vp_meter.specs.Meter.{meter_some}
use Rattle.vp_multi.specs.Multi.{multi_some}
use Rattle.vp_hits.specs.HitsJob.{hits_some}
use Rattle.vp_sessions.specs.Sessions.{sessions_some}
use Rattle.vp_gen.specs.Play.{play_some}
use Rattle.vp_audit.specs.Compile.{compile_some}
use Rattle.vp_run.specs.declared.job.HeapJob.{HeapJob}
use Rattle.vp_run.specs.declared.job.HeapJob.TheVariants as heap
use Rattle.vp_run.specs.declared.job.LentJob.{LentJob}
use Rattle.vp_run.specs.declared.job.LentJob.TheVariants as lent

-- the text of a job that takes no memory but what it is lent has a byte at least
abbrev pub lent_some : (job : LentJob) → 0 < length (lent_due job).text
lent_some (lent.Deal job) = deal_some job
lent_some (lent.Holds job) = holds_some job
lent_some (lent.Certify job) = certify_some job
lent_some (lent.Audit job) = audit_some job
lent_some (lent.Cross job) = cross_some job
lent_some (lent.Checked job) = checked_some job
lent_some (lent.Replay job) = replay_some job
lent_some (lent.Meter job) = meter_some job
lent_some (lent.Multi job) = multi_some job
lent_some (lent.Hits job) = hits_some job

-- so has that of a job that takes memory of its own
abbrev pub heap_some : (job : HeapJob) → 0 < length (heap_due job).said.text
heap_some (heap.Sessions job) = sessions_some job
heap_some (heap.Play job) = play_some job
heap_some (heap.Compile job) = compile_some job
