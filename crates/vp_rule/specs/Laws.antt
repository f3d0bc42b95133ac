-- What holds of rules, lists and pools, whatever they are.
use Rattle.std.specs.Prelude.{◌≡◌, ◌↔◌, ℕ, ◌<◌, Bool, List, Ok, Err}
use Rattle.vp_suit.specs.Classes.{IsDeal}
use Rattle.vp_suit.specs.Turns.{carried, turn}
use Rattle.vp_pay.specs.Table.{IsTable}
use Rattle.vp_pay.specs.Written.{IsReadAgain}
use Rattle.vp_pay.specs.declared.table.PayTable.{PayTable}
use Rattle.vp_rule.specs.Holds.{matches}
use Rattle.vp_rule.specs.Inputs.{RefusesList, RefusesPool, SpellsList, SpellsPool, list_input, pool_input}
use Rattle.vp_rule.specs.Lists.{RuleList, RulePool}
use Rattle.vp_rule.specs.Spelling.{list_text, pool_text}
use Rattle.vp_rule.specs.Valid.{IsList, IsPool}
use Rattle.vp_rule.specs.declared.rule.Rule.{Rule}

-- a rule matches the hold that is carried along to a turned deal exactly where it matches the hold of the deal
abbrev pub RulesAreKeptByTurns : Type 0
RulesAreKeptByTurns = (n t mask : ℕ) (table : PayTable) (rule : Rule) (cards : List ℕ) → t < 24 → IsDeal n cards
    → matches table rule (turn t cards) (carried t cards mask) ≡ matches table rule cards mask

-- a list that was written is read again, whatever follows
abbrev pub WrittenListsAreRead : Type 0
WrittenListsAreRead = (table : PayTable) (list : RuleList) (more : List ℕ) → IsTable table → IsList table list
    → IsReadAgain (list_text table) list more

-- so is a pool
abbrev pub WrittenPoolsAreRead : Type 0
WrittenPoolsAreRead = (table : PayTable) (pool : RulePool) (more : List ℕ) → IsTable table → IsPool table pool
    → IsReadAgain (pool_text table) pool more

-- an input says a table and a list where its lines are their spellings, and nothing else
abbrev pub ListInputsSay : Type 0
ListInputsSay = (fits : PayTable → Bool) (bytes : List ℕ) (read : PayTable × RuleList)
    → list_input fits bytes ≡ Ok read ↔ SpellsList fits bytes read

-- else it is refused at its refused line
abbrev pub ListInputsAreRefused : Type 0
ListInputsAreRefused = (fits : PayTable → Bool) (bytes : List ℕ) (line : ℕ)
    → list_input fits bytes ≡ Err line ↔ RefusesList fits bytes line

-- an input says a table and a pool where its lines are their spellings, and nothing else
abbrev pub PoolInputsSay : Type 0
PoolInputsSay = (fits : PayTable → Bool) (bytes : List ℕ) (read : PayTable × RulePool)
    → pool_input fits bytes ≡ Ok read ↔ SpellsPool fits bytes read

-- else it is refused at its refused line
abbrev pub PoolInputsAreRefused : Type 0
PoolInputsAreRefused = (fits : PayTable → Bool) (bytes : List ℕ) (line : ℕ)
    → pool_input fits bytes ≡ Err line ↔ RefusesPool fits bytes line
