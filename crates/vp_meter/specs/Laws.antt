-- What metered bets obey, and what a meter tells of every deal, in the words of Metered and of values (vp_draws, Draws).
use Rattle.std.specs.Prelude.{◌≡◌, ℕ, ◌+◌, ◌-◌, ◌*◌, ◌<◌, ◌≤◌, if◌then◌else◌, List, ◌∷◌, length, sum_by}
use Rattle.vp_draws.specs.Draws.{IsMean, best, sum_of_best, total, value}
use Rattle.vp_pay.specs.Bets.{IsBet}
use Rattle.vp_pay.specs.declared.table.PayTable.{PayTable}
use Rattle.vp_suit.specs.Classes.{IsDeal, representative}
use Rattle.vp_suit.specs.Laws.{deals}
use Rattle.vp_suit.specs.Turns.{carried, turn}
use Rattle.vp_wild.specs.Payment.{line, pay}
use Rattle.vp_meter.specs.declared.piece.Piece.{Piece}
use Rattle.vp_meter.specs.declared.segment.Segment.{Segment}
use Rattle.vp_meter.specs.Metered.{IsMetering, Metering, at_payment, is_line, with_payment}
use Rattle.vp_meter.specs.Pieces.{base_in, in_force, piece_in_force, pieces, slope_in}
use Rattle.vp_meter.specs.Spelling.{graph_of, graphs_of}

-- each hand has the same line, whatever the payment
abbrev pub LinesAreKept : Type 0
LinesAreKept = (coin place x : ℕ) (table : PayTable) (hand : List ℕ) → line (with_payment table coin place x) hand ≡ line table hand

-- with a payment of at most 500000 the table keeps the rules and limits, and has the bet
abbrev pub TablesAreKept : Type 0
TablesAreKept = (coin place x : ℕ) (table : PayTable) → IsBet table coin → x ≤ 500000 → IsBet (with_payment table coin place x) coin

-- a hand of the metered line is paid x, and each other as before
abbrev pub PaymentsAreChanged : Type 0
PaymentsAreChanged = (coin place x : ℕ) (table : PayTable) (hand : List ℕ) → IsBet table coin → place < length table.lines.items
    → pay (with_payment table coin place x) coin hand ≡ (if is_line place (line table hand) then x else pay table coin hand)

-- the value of each hold is a straight line in the payment
abbrev pub ValuesAreStraight : Type 0
ValuesAreStraight = (coin place x mask : ℕ) (table : PayTable) (hand : List ℕ) → IsBet table coin → place < length table.lines.items
    → value (with_payment table coin place x) coin hand mask
    ≡ value (with_payment table coin place 0) coin hand mask
    + x * (value (with_payment table coin place 1) coin hand mask - value (with_payment table coin place 0) coin hand mask)

-- the mask in force at x of the class that has this representative
abbrev pub mask_in_force : Metering → ℕ → ℕ → ℕ → List ℕ → ℕ
mask_in_force m lo hi x cards = (in_force x (graph_of m lo hi cards).first (graph_of m lo hi cards).later).mask

-- a hold that is played with a deal at x: a turn of the suits makes the deal its representative, and carries the hold to the mask in force
pub record IsPlayed (m : Metering) (lo hi x : ℕ) (cards : List ℕ) (mask : ℕ) : Type 0 where
  pub turning : ℕ
  pub within : turning < 24
  pub deal : turn turning cards ≡ representative cards
  pub hold : carried turning cards mask ≡ mask_in_force m lo hi x (representative cards)

-- there is such a hold
pub record PlayedHold (m : Metering) (lo hi x : ℕ) (cards : List ℕ) : Type 0 where
  pub mask : ℕ
  pub within : mask < 32
  pub played : IsPlayed m lo hi x cards mask

-- with the payment x no hold of the deal is worth more, and the value of each over the common denominator is its mean payment over all draws
pub record IsBestAt (m : Metering) (x : ℕ) (cards : List ℕ) (mask : ℕ) : Type 0 where
  pub best : value (at_payment m x) m.coin cards mask ≡ best (at_payment m x) m.coin cards
  pub greatest : (other : ℕ) → other < 32 → value (at_payment m x) m.coin cards other ≤ value (at_payment m x) m.coin cards mask
  pub mean : (other : ℕ) → other < 32
      → IsMean m.table.deck cards other (total (at_payment m x) m.coin cards other) (value (at_payment m x) m.coin cards other)

-- a meter tells every deal, at each whole payment from lo to hi: each deal has a hold that is played, and each such hold is best; and the
-- last piece that begins there or before tells the sum of the best values of all deals
pub record TellsMeter (m : Metering) (lo hi : ℕ) : Type 0 where
  pub every : (x : ℕ) (cards : List ℕ) → lo ≤ x → x ≤ hi → IsDeal m.table.deck cards → PlayedHold m lo hi x cards
  pub holds : (x mask : ℕ) (cards : List ℕ) → lo ≤ x → x ≤ hi → IsDeal m.table.deck cards
      → IsPlayed m lo hi x cards mask → IsBestAt m x cards mask
  pub sums : (x : ℕ) (first : Piece) (later : List Piece) → lo ≤ x → x ≤ hi → pieces lo hi (graphs_of m lo hi) ≡ first ∷ later
      → (piece_in_force x first later).base + x * (piece_in_force x first later).slope ≡ sum_of_best (at_payment m x) m.coin

abbrev pub MetersTellEveryDeal : Type 0
MetersTellEveryDeal = (m : Metering) (lo hi : ℕ) → IsMetering m → TellsMeter m lo hi

-- the segment in force at x of a deal: that of its class
abbrev pub segment_in_force : Metering → ℕ → ℕ → ℕ → List ℕ → Segment
segment_in_force m lo hi x cards = in_force x (graph_of m lo hi (representative cards)).first (graph_of m lo hi (representative cards)).later

-- the two sums of a piece are sums over all deals, of the bases and of the slopes in force
pub record SumsAllDeals (m : Metering) (lo hi x : ℕ) : Type 0 where
  pub base : sum_by (base_in x) (graphs_of m lo hi) ≡ sum_by (λ cards. (segment_in_force m lo hi x cards).base) (deals m.table.deck)
  pub slope : sum_by (slope_in x) (graphs_of m lo hi) ≡ sum_by (λ cards. (segment_in_force m lo hi x cards).slope) (deals m.table.deck)

abbrev pub PiecesSumAllDeals : Type 0
PiecesSumAllDeals = (m : Metering) (lo hi x : ℕ) → IsMetering m → SumsAllDeals m lo hi x
