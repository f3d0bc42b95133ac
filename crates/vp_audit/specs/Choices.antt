-- The holds of a hand, with their values: the least and the greatest of those that a rule matches, as the words say.
use Rattle.std.specs.Prelude.{◌≡◌, ℕ, Bool, true, false, List, [], ◌∷◌, length, map, max, min}
use Rattle.vp_pay.specs.declared.table.PayTable.{PayTable}
use Rattle.vp_rank.specs.Bounded.{some_below}
use Rattle.vp_draws.specs.Draws.{greatest, masks, value}
use Rattle.vp_rule.specs.Holds.{matches}
use Rattle.vp_rule.specs.declared.rule.Rule.{Rule}
use Rattle.vp_compile.specs.Rows.{empty}
use Rattle.vp_audit.specs.Values.{least, matched}

-- a hand that is dealt for a bet on a table
pub record BetHand : Type 0 where
  pub table : PayTable
  pub coin : ℕ
  pub hand : List ℕ

-- the values of the 32 holds of a hand of five cards, for a bet on a table
pub record AreChoices (table : PayTable) (coin : ℕ) (hand : List ℕ) (values : List ℕ) : Type 0 where
  pub five : length hand ≡ 5
  pub valued : values ≡ map (value table coin hand) masks

-- the least of the numbers that f gives for a list, and for none the number of an empty cell, the greatest of 64 bits
abbrev pub least_or_empty : (ℕ → ℕ) → List ℕ → ℕ
least_or_empty f [] = empty
least_or_empty f (mask ∷ masks) = least f (mask ∷ masks)

-- the least value of the holds that a rule matches
abbrev pub least_matched : BetHand → Rule → ℕ
least_matched h rule = least_or_empty (value h.table h.coin h.hand) (matched h.table rule h.hand)

-- the greatest value of the holds that a rule matches
abbrev pub greatest_matched : BetHand → Rule → ℕ
greatest_matched h rule = greatest (value h.table h.coin h.hand) (matched h.table rule h.hand)

-- the rule matches some hold
abbrev pub matches_some : PayTable → List ℕ → Rule → Bool
matches_some table hand rule = some_below 32 (λ mask. matches table rule hand mask)

-- the least and the greatest of some numbers, with one number more where it counts
abbrev pub widened : ℕ × ℕ → Bool → ℕ → ℕ × ℕ
widened e true n = (min e.0 n, max e.1 n)
widened e false n = e
