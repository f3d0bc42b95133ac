-- How an answer ends that is written in lent memory. The ways are this program's own (docs/FORMATS.md, Refusals and the exit status).
use Rattle.vp_io.specs.Streams.{Told}
use Rattle.vp_answer.specs.Answers.{Answer}
use Rattle.vp_answer.specs.Outcome.{Answered, CutOff, Silent}
use Rattle.vp_answer.specs.declared.status.Status.{Status}
use Rattle.vp_answer.specs.declared.status.Status.TheVariants.{ReadFault, WriteFault, NoMemory, TooLong}

-- by its status: a beginning of the text and a fault, or nothing, or the whole text
abbrev pub EndsLent : Answer → Told → Told → Status → Type 0
EndsLent due before after ReadFault = ⊥
EndsLent due before after WriteFault = CutOff due before after
EndsLent due before after NoMemory = Silent before after
EndsLent due before after TooLong = Silent before after
EndsLent due before after status = Answered due before after status
