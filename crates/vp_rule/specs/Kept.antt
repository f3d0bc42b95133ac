-- How a list is read when no exception is kept: a state stands for the items so far, and the exceptions are read again from the text.
use Rattle.std.specs.Prelude.{ℕ, List, Option, Some, None, ◌⊎◌, codes, if◌then◌else◌}
use Rattle.std.proofs.Common.{inl, inr}
use Rattle.vp_text.specs.Lines.{Word}
use Rattle.vp_text.specs.ExactReaders.{Reader}
use Rattle.vp_text.specs.Reading.{only_is, both, mapped}
use Rattle.vp_text.specs.Streams.{folded, front_items}
use Rattle.vp_pay.specs.declared.table.PayTable.{PayTable}
use Rattle.vp_rule.specs.Lists.{RuleList}
use Rattle.vp_rule.specs.Reading.{Front, Item, exception_of, front_with, item_behind, nothing_yet, version_line}
use Rattle.vp_rule.specs.declared.rule.Rule.{Rule}

-- what a line does to what is kept: one item more
abbrev pub stepped : Front → Option Item → Option (Front ⊎ Unit {0})
stepped front None = None
stepped front (Some item) = Some (inl (front_with front item))

-- a line behind these: one item more, or the end
unfoldable pub step_behind : ℕ → PayTable → Front → List Word → Option (Front ⊎ Unit {0})
step_behind version table front words = if only_is (codes "end") words then Some (inr tt) else stepped front (item_behind version table front words)

-- the rules up to the end, behind exceptions
unfoldable pub kept_rules : ℕ → PayTable → Reader (List Rule)
kept_rules version table = mapped (λ kept. kept.0.rules) (folded (step_behind version table) nothing_yet)

-- the rules, and the exceptions read again in front of them
abbrev pub kept_at : ℕ → PayTable → Reader RuleList
kept_at version table feed = mapped (λ rules. record { version = version; exceptions = front_items (exception_of table.deck) feed.lines; rules = rules }) (kept_rules version table) feed

unfoldable pub kept_list_at : PayTable → Reader RuleList
kept_list_at table = mapped (λ p. p.1) (both (version_line (codes "list")) (λ version. kept_at version table))
