-- The rules of a certificate that is in the grammar, and the first that is broken. The rules and their order are this program's own
-- (docs/FORMATS.md, The certificate).
use Rattle.std.specs.Prelude.{ℕ, ◌+◌, ◌*◌, Bool, not, ◌&&◌, ◌==◌, nat_le, nat_lt, List, [], ◌∷◌, length, map, sum_by, Option, Some, None, option_map, if◌then◌else◌}
use Rattle.vp_pay.specs.declared.table.PayTable.{PayTable}
use Rattle.vp_sets.specs.Index.{set_index}
use Rattle.vp_sets.specs.Sets.{choose}
use Rattle.vp_draws.specs.Draws.{best, return_denominator, value}
use Rattle.vp_suit.specs.Classes.{is_representative, representative, weight}
use Rattle.vp_check.specs.Certificates.{Certificate}
use Rattle.vp_check.specs.declared.class_line.ClassLine.{ClassLine}
use Rattle.vp_check.specs.declared.rules.Breach.{Breach}
use Rattle.vp_check.specs.declared.finding.CertRule.{CertRule}
use Rattle.vp_check.specs.declared.finding.CertRule.TheVariants.{Order, Weight, Value, Mask, Cover, Sum, Denominator}

-- where it is broken: the number that stands there, and the number due
abbrev pub broken_if : Bool → CertRule → ℕ → ℕ → Option Breach
broken_if broken rule said due = if broken then Some (record { rule = rule; said = said; due = due }) else None

-- the first that is there
abbrev pub first_of : {A : Type 0} → List (Option A) → Option A
first_of [] = None
first_of (None ∷ more) = first_of more
first_of (Some x ∷ more) = Some x

-- ---- class lines

-- a class line with its place, counted from 1, and the index of the class line before it
pub record Row : Type 0 where
  pub place : ℕ
  pub before : Option ℕ
  pub line : ClassLine

-- class lines from a place on, behind a class line with this index
abbrev pub rows_from : ℕ → Option ℕ → List ClassLine → List Row
rows_from place before [] = []
rows_from place before (line ∷ lines) = record { place = place; before = before; line = line } ∷ rows_from (place + 1) (Some (set_index line.hand)) lines

-- all class lines of a certificate
abbrev pub rows : List ClassLine → List Row
rows lines = rows_from 1 None lines

-- the place is one of `count` places from `from` on
abbrev pub in_range : ℕ → ℕ → ℕ → Bool
in_range from count place = nat_le from place && nat_lt place (from + count)

-- the cards are their least image
unfoldable pub image_breach : List ℕ → Option Breach
image_breach hand = broken_if (not (is_representative hand)) Order (set_index hand) (set_index (representative hand))

-- the index is above that of the class line before
abbrev pub rising_breach : Option ℕ → List ℕ → Option Breach
rising_breach None hand = None
rising_breach (Some before) hand = broken_if (nat_le (set_index hand) before) Order (set_index hand) before

-- the weight is the number of images
unfoldable pub weight_breach : ClassLine → Option Breach
weight_breach line = broken_if (not (line.weight == weight line.hand)) Weight line.weight (weight line.hand)

-- the value is the greatest of the 32 holds
unfoldable pub value_breach : PayTable → ℕ → ClassLine → Option Breach
value_breach table coin line = broken_if (not (line.value == best table coin line.hand)) Value line.value (best table coin line.hand)

-- the mask has the greatest value
unfoldable pub mask_breach : PayTable → ℕ → ClassLine → Option Breach
mask_breach table coin line = broken_if (nat_lt (value table coin line.hand line.mask) (best table coin line.hand)) Mask (value table coin line.hand line.mask) (best table coin line.hand)

-- the first broken rule of a class line's cards and weight, behind a class line with this index
unfoldable pub listed_breach : Option ℕ → ClassLine → Option Breach
listed_breach before line = first_of (image_breach line.hand ∷ rising_breach before line.hand ∷ weight_breach line ∷ [])

-- the first broken rule of a class line's value and mask
unfoldable pub walked_breach : PayTable → ℕ → ClassLine → Option Breach
walked_breach table coin line = first_of (value_breach table coin line ∷ mask_breach table coin line ∷ [])

-- the first broken rule of a class line; the value and the mask are asked of walked lines alone
unfoldable pub class_breach : PayTable → ℕ → Bool → Option ℕ → ClassLine → Option Breach
class_breach table coin walked before line = first_of (listed_breach before line ∷ (if walked then walked_breach table coin line else None) ∷ [])

-- ---- the return

-- the weights sum to the number of deals of a deck of n
unfoldable pub cover_breach : ℕ → ℕ → Option Breach
cover_breach n covered = broken_if (not (covered == choose n 5)) Cover covered (choose n 5)

-- the sum is that of weight times value
unfoldable pub sum_breach : ℕ → ℕ → Option Breach
sum_breach sum due = broken_if (not (sum == due)) Sum sum due

-- the denominator is that of the deck and the bet
unfoldable pub denominator_breach : ℕ → ℕ → ℕ → Option Breach
denominator_breach n coin denominator = broken_if (not (denominator == return_denominator n coin)) Denominator denominator (return_denominator n coin)

-- the first broken rule of the return
unfoldable pub return_breach : Certificate → Option Breach
return_breach c = first_of (
    cover_breach c.table.deck (sum_by (λ line. line.weight) c.classes) ∷
    sum_breach c.sum (sum_by (λ line. line.weight * line.value) c.classes) ∷
    denominator_breach c.table.deck c.coin c.denominator ∷ [])

-- ---- all lines

-- a broken rule at a class line's place; the return stands one place behind the last class line
pub record Break : Type 0 where
  pub place : ℕ
  pub breach : Breach

-- what is broken at a place, if anything is
abbrev pub at : ℕ → Option Breach → Option Break
at place breach = option_map (λ b. record { place = place; breach = b }) breach

-- the first broken rule of the class lines, where `count` of them from the place `from` on are walked
unfoldable pub class_break : PayTable → ℕ → ℕ → ℕ → List ClassLine → Option Break
class_break table coin from count lines = first_of (map (λ row. at row.place (class_breach table coin (in_range from count row.place) row.before row.line)) (rows lines))

-- the first broken rule of a certificate: that of the class lines, else that of the return
unfoldable pub first_break : ℕ → ℕ → Certificate → Option Break
first_break from count c = first_of (class_break c.table c.coin from count c.classes ∷ at (length c.classes + 1) (return_breach c) ∷ [])
