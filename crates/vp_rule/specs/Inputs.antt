-- Inputs of a pay table that fits, of a list or a pool for it, and of nothing else (docs/FORMATS.md).
use Rattle.std.specs.Prelude.{ℕ, Bool, List, Result}
use Rattle.vp_text.specs.Lines.{feed_of}
use Rattle.vp_text.specs.Sections.{AcceptedInput, RefusedInput}
use Rattle.vp_pay.specs.Inputs.{section_input}
use Rattle.vp_pay.specs.Spelling.{table_text}
use Rattle.vp_pay.specs.Table.{IsTable}
use Rattle.vp_pay.specs.declared.table.PayTable.{PayTable}
use Rattle.vp_rule.specs.Lists.{RuleList, RulePool}
use Rattle.vp_rule.specs.Reading.{list_at, pool_at}
use Rattle.vp_rule.specs.Spelling.{list_text, pool_text}
use Rattle.vp_rule.specs.Valid.{IsList, IsPool}

-- the table and the list that an input says, or the line where it is refused
abbrev pub list_input : (PayTable → Bool) → List ℕ → Result (PayTable × RuleList) ℕ
list_input fits bytes = section_input fits list_at bytes

-- its lines are the spellings of a table that fits and of a list for it
abbrev pub SpellsList : (PayTable → Bool) → List ℕ → PayTable × RuleList → Type 0
SpellsList fits bytes read = AcceptedInput table_text IsTable fits list_text IsList (feed_of bytes) read

-- its refused line: a table that does not fit comes first
abbrev pub RefusesList : (PayTable → Bool) → List ℕ → ℕ → Type 0
RefusesList fits bytes line = RefusedInput table_text IsTable fits list_text IsList (feed_of bytes) line

-- the table and the pool that an input says, or the line where it is refused
abbrev pub pool_input : (PayTable → Bool) → List ℕ → Result (PayTable × RulePool) ℕ
pool_input fits bytes = section_input fits pool_at bytes

-- its lines are the spellings of a table that fits and of a pool for it
abbrev pub SpellsPool : (PayTable → Bool) → List ℕ → PayTable × RulePool → Type 0
SpellsPool fits bytes read = AcceptedInput table_text IsTable fits pool_text IsPool (feed_of bytes) read

-- its refused line: a table that does not fit comes first
abbrev pub RefusesPool : (PayTable → Bool) → List ℕ → ℕ → Type 0
RefusesPool fits bytes line = RefusedInput table_text IsTable fits pool_text IsPool (feed_of bytes) line
