-- The number that the program ends with: this program's own (docs/FORMATS.md, Refusals and the exit status).
use Rattle.std.specs.Prelude.{ℕ}
use Rattle.vp_answer.specs.declared.status.Status.{Status}
use Rattle.vp_answer.specs.declared.status.Status.TheVariants.{Done, Finding, Usage, Refused, ReadFault, WriteFault, NoMemory, TooLong}

-- the exit code of a status
abbrev pub code_of : Status → ℕ
code_of Done = 0
code_of Finding = 1
code_of Usage = 2
code_of Refused = 3
code_of ReadFault = 4
code_of WriteFault = 5
code_of NoMemory = 6
code_of TooLong = 7
