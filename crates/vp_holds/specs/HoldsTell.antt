-- What the text of `holds` tells. The expected payment of a hold is that of S. N. Ethier, The Doctrine of Chances (2010), in its chapter on
-- video poker.
use Rattle.std.specs.Prelude.{◌≡◌, ℕ, ◌+◌, ◌*◌, ◌<◌, Bool, true, false, ◌==◌, List, Ok, length, count_by, slice_index, sum_by}
use Rattle.std.specs.Option.{option_map_or}
use Rattle.vp_card.specs.Cards.{held, joined}
use Rattle.vp_card.specs.Rising.{times}
use Rattle.vp_text.specs.Written.{written}
use Rattle.vp_pay.specs.declared.table.PayTable.{PayTable}
use Rattle.vp_sets.specs.Sets.{deck}
use Rattle.vp_sets.specs.Draws.{draws}
use Rattle.vp_wild.specs.Payment.{line}
use Rattle.vp_draws.specs.Draws.{IsMean, IsPrinted, total, value}
use Rattle.vp_answer.specs.Answers.{Answer, done}
use Rattle.vp_answer.specs.declared.status.Status.TheVariants.{Done}
use Rattle.vp_deal.specs.Deal.{Dealt, best_of, deal_input}
use Rattle.vp_holds.specs.Holds.{holds_due, holds_lines, line_counts, line_pays, masks_by_value, none_count}
use Rattle.vp_holds.specs.Ranking.{IsRanked}

-- whether the first line that a hand hits is the one at this place
unfoldable pub has_line : PayTable → ℕ → List ℕ → Bool
has_line table place hand = option_map_or (λ found. found == place) (line table hand) false

-- whether a hand hits no line
unfoldable pub has_none : PayTable → List ℕ → Bool
has_none table hand = option_map_or (λ found. false) (line table hand) true

-- of how many draws of a hold the final hand passes a test
abbrev pub draws_that : (List ℕ → Bool) → Dealt → ℕ → ℕ
draws_that test d mask = count_by (λ drawn. test (joined (held mask d.hand) drawn)) (draws d.table.deck d.hand mask)

-- what the line of a hold tells: its value over the common denominator is the mean payment over all draws; of each pay line the number of
-- the draws whose final hand has it, and the number of those that have none; these are all draws, and times what the lines pay they are
-- the sum of the payments
pub record TellsHold (d : Dealt) (mask : ℕ) : Type 0 where
  pub mean : IsMean d.table.deck d.hand mask (total d.table d.coin d.hand mask) (value d.table d.coin d.hand mask)
  pub many : length (line_counts d mask) ≡ length d.table.lines.items
  pub lines : (place : ℕ) → place < length d.table.lines.items → slice_index (line_counts d mask) place ≡ draws_that (has_line d.table place) d mask
  pub none : none_count d mask ≡ draws_that (has_none d.table) d mask
  pub all : sum_by (slice_index (line_counts d mask)) (deck (length d.table.lines.items)) + none_count d mask ≡ length (draws d.table.deck d.hand mask)
  pub pays : sum_by (λ place. slice_index (line_pays d.table d.coin) place * slice_index (line_counts d mask) place) (deck (length d.table.lines.items))
      ≡ total d.table d.coin d.hand mask

-- the answer is the deal line and a line for each hold. The first is the one that `deal` prints, a best hold; each mask stands once;
-- values fall, and equal ones stand by rising mask
pub record PrintsHolds (d : Dealt) (due : Answer) : Type 0 where
  pub status : due.status ≡ Done
  pub text : due.text ≡ written (holds_lines d)
  pub first : slice_index (masks_by_value d) 0 ≡ (best_of d).mask
  pub best : IsPrinted d.table d.coin d.hand (best_of d).mask (best_of d).value
  pub many : length (masks_by_value d) ≡ 32
  pub once : (mask : ℕ) → mask < 32 → times mask (masks_by_value d) ≡ 1
  pub order : IsRanked (value d.table d.coin d.hand) (masks_by_value d)
  pub holds : (mask : ℕ) → mask < 32 → TellsHold d mask

-- the text of `holds` to each pay table and deal that it takes
abbrev pub HoldsTellEveryHold : Type 0
HoldsTellEveryHold = (coin : ℕ) (bytes : List ℕ) (table : PayTable) (hand : List ℕ) → deal_input coin bytes ≡ Ok (table, hand)
    → PrintsHolds (record { table = table; coin = coin; hand = hand }) (done (holds_due (record { table = table; coin = coin; hand = hand })).text)
