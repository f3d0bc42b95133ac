-- Strategy lists and pools of rules: what is in them. A list is a strategy card, as players use it; its form is this program's own
-- (docs/FORMATS.md, The strategy list and The pool).
use Rattle.std.specs.Prelude.{ℕ, List}
use Rattle.vp_rule.specs.declared.rule.Rule.{Rule}

-- an exception: the representative of a class, and a mask
abbrev pub Exception : Type 0
Exception = List ℕ × ℕ

-- a list: its version, its exceptions, and its rules in their order
pub record RuleList : Type 0 where
  pub version : ℕ
  pub exceptions : List Exception
  pub rules : List Rule

-- a pool: its version, and its rules in their order
pub record RulePool : Type 0 where
  pub version : ℕ
  pub rules : List Rule
