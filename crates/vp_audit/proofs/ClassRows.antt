-- The rows of a pool are those of a matrix.
use Rattle.std.proofs.Common.{◌≡◌, ℕ, ◌<◌, ◌≤◌, List, [], ◌∷◌, length, get_or, refl, sym, subst, arith, true, inl, inr}
use Rattle.std.specs.Prelude.{filter}
use Rattle.std.specs.List.{All}
use Rattle.std.proofs.lemmas.List.Elements.{All-get_or, All-map, All-weaker}
use Rattle.vp_sets.proofs.Denominators.{common_small}
use Rattle.vp_suit.specs.Classes.{IsDeal, is_representative, representatives}
use Rattle.vp_suit.proofs.ClassLaws.{representatives_only}
use Rattle.vp_suit.proofs.TurnedDraws.{dealt_is}
use Rattle.vp_suit.proofs.Weights.{weight_few}
use Rattle.vp_pay.specs.declared.table.PayTable.{PayTable}
use Rattle.vp_pay.specs.Table.{IsTable}
use Rattle.vp_draws.specs.Draws.{best, masks, value}
use Rattle.vp_draws.proofs.Bounds.{best_fits}
use Rattle.vp_draws.proofs.Chosen.{value_le_best}
use Rattle.vp_draws.proofs.Values.{value_is, value_le}
use Rattle.vp_rule.specs.Holds.{matches}
use Rattle.vp_rule.specs.declared.rule.Rule.{Rule}
use Rattle.vp_compile.specs.Matrices.{rows_of}
use Rattle.vp_compile.specs.Rows.{IsCell, IsRow, Row, empty}
use Rattle.vp_audit.specs.Choices.{least_or_empty}
use Rattle.vp_audit.specs.Compiled.{class_at, class_row, pool_rows, rule_cell}
use Rattle.vp_audit.specs.Values.{matched}
use Rattle.vp_audit.proofs.Charges.{least_members}
use Rattle.vp_audit.proofs.KeptValues.{filter_out, mask_small}
use Rattle.vp_audit.proofs.Lookups.{OneOf}

-- a class of deals, by its representative
abbrev pub IsClass : ℕ → List ℕ → Type 0
IsClass n cards = IsDeal n cards × (is_representative cards ≡ true)

pub class_is : (n place : ℕ) → place < length (representatives n) → IsClass n (class_at n place)
class_is n place l = All-get_or (IsClass n) (representatives n) place [] l (representatives_only n)

module _ (table : PayTable) (coin : ℕ) (known : IsTable table) where
  -- values are below the number of an empty cell
  pub value_small : (cards : List ℕ) → IsDeal table.deck cards → (mask : ℕ) → value table coin cards mask < empty
  value_small cards deal mask = omega (arith, value_is table coin cards mask, value_le table coin cards mask known (dealt_is table.deck cards deal), common_small table.deck known.known_deck)

  cell_fits : (cards : List ℕ) (rule : Rule) → IsCell (best table coin cards) (rule_cell table coin cards rule)
  unfolding rule_cell matched
  cell_fits cards rule = by_masks (filter (λ mask. matches table rule cards mask) masks) (λ m one. value_le_best table coin cards m (mask_small m (filter_out (λ mask. matches table rule cards mask) masks m one).1))
    where
      by_masks : (ms : List ℕ) → ((m : ℕ) → OneOf ms m → value table coin cards m ≤ best table coin cards) → IsCell (best table coin cards) (least_or_empty (value table coin cards) ms)
      by_masks [] all = inl refl
      by_masks (m ∷ ms) all = inr (least_members (value table coin cards) (best table coin cards) (m ∷ ms) all)

  row_fits : (rules : List Rule) (cards : List ℕ) → IsDeal table.deck cards → IsRow (class_row table coin rules cards)
  unfolding class_row
  row_fits rules cards deal = record {
    weight_from = (weight_few cards).0;
    weight_to = (weight_few cards).1;
    best = best_fits table coin cards known (dealt_is table.deck cards deal);
    none = value_le_best table coin cards 0 (omega arith);
    cells = All-map (IsCell (best table coin cards)) (rule_cell table coin cards) rules (λ k d l. cell_fits cards (get_or rules k d));
  }

  rows_fit : (rules : List Rule) → All IsRow (pool_rows table coin rules)
  unfolding pool_rows
  rows_fit rules = All-map IsRow (class_row table coin rules) (representatives table.deck) (All-weaker (IsClass table.deck) (λ cards. IsRow (class_row table coin rules cards)) (λ cards is. row_fits rules cards is.0) (representatives table.deck) (representatives_only table.deck))

  -- what holds them are the rows of a matrix
  pub held_fit : (rules : List Rule) (weights bests nones cells : List ℕ) → rows_of (length rules) weights bests nones cells ≡ pool_rows table coin rules → All IsRow (rows_of (length rules) weights bests nones cells)
  held_fit rules weights bests nones cells is = subst (λ (rows : List Row). All IsRow rows) (sym is) (rows_fit rules)
