-- The ledger of the counter that nobody reads is the blank's.
use Rattle.vp_audit.proofs.compile_job.CompileJobHeapWork.write.Given as goal

abbrev pub ghosts-compiled : goal.ghosts-compiled
ghosts-compiled g a = record { name = a.blank.name; parts = a.blank.parts }
