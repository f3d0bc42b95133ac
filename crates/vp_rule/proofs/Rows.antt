-- The rows of lists and of pools.
use Rattle.std.specs.Prelude.{ℕ, List, Option, ◌⊎◌, codes}
use Rattle.vp_text.specs.Lines.{Word}
use Rattle.vp_text.specs.Reading.{closed_by}
use Rattle.vp_text.specs.Streams.{always}
use Rattle.vp_pay.specs.declared.table.PayTable.{PayTable}
use Rattle.vp_rule.specs.Reading.{Item, front_of, item_behind, next_rule_of, some_rules}
use Rattle.vp_rule.specs.declared.rule.Rule.{Rule}

-- a line behind these items is one more, or the word that closes them
abbrev pub list_row : ℕ → PayTable → List Item → List Word → Option (Item ⊎ Unit {0})
list_row version table = closed_by (codes "end") always (λ items. item_behind version table (front_of items))

-- a line behind these rules is one more, or the word that closes them
abbrev pub pool_row : ℕ → PayTable → List Rule → List Word → Option (Rule ⊎ Unit {0})
pool_row version table = closed_by (codes "end") some_rules (next_rule_of 64 version table)
