-- Hands, the holds of which rules may match: which of the 32 holds a rule matches, by the tests of Holds.
use Rattle.std.specs.Prelude.{ℕ, ◌==◌, List, ◌∷◌, length, filter}
use Rattle.std.specs.List.{range_with_len}
use Rattle.vp_card.specs.Cards.{held}
use Rattle.vp_pay.specs.declared.table.PayTable.{PayTable}
use Rattle.vp_rule.specs.Holds.{matches}
use Rattle.vp_rule.specs.declared.rule.Rule.{Rule}
use Rattle.vp_rule.specs.declared.rule.Test.{Test}
use Rattle.vp_rule.specs.declared.rule.Test.TheVariants.{Hold}

-- a hand that is paid by a table
pub record HandAtTable : Type 0 where
  pub table : PayTable
  pub hand : List ℕ

-- those of the masks that the rule matches
abbrev pub masks_matched : HandAtTable → Rule → List ℕ → List ℕ
masks_matched h rule masks = filter (λ mask. matches h.table rule h.hand mask) masks

-- the masks of the 32 holds that hold so many cards of a hand
unfoldable pub masks_of_size : ℕ → List ℕ → List ℕ
masks_of_size size hand = filter (λ mask. length (held mask hand) == size) (range_with_len 0 32)

-- the masks of as many cards as the first test asks for; all where it asks for no number
abbrev pub masks_asked : List Test → List ℕ → List ℕ
masks_asked (Hold k ∷ tests) hand = masks_of_size k hand
masks_asked tests hand = range_with_len 0 32
