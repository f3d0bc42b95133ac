-- What the text of `meter` tells.
use Rattle.std.specs.Prelude.{◌≡◌, ◌≤◌, ℕ, Bool, List, Ok, count_by, sum_by}
use Rattle.std.specs.List.{All}
use Rattle.vp_text.specs.Written.{written}
use Rattle.vp_pay.specs.LineNames.{name_at}
use Rattle.vp_pay.specs.declared.table.PayTable.{PayTable}
use Rattle.vp_suit.specs.Classes.{representative, representatives}
use Rattle.vp_suit.specs.Laws.{deals as all_deals}
use Rattle.vp_answer.specs.Answers.{Answer, done}
use Rattle.vp_answer.specs.declared.status.Status.TheVariants.{Done}
use Rattle.vp_meter.specs.declared.piece.Piece.{Piece}
use Rattle.vp_meter.specs.Laws.{TellsMeter, segment_in_force}
use Rattle.vp_meter.specs.Meter.{meter_due, meter_input, metering_of}
use Rattle.vp_meter.specs.Metered.{IsMetering, Metering}
use Rattle.vp_meter.specs.Pieces.{begins_at, pieces}
use Rattle.vp_meter.specs.Spelling.{graph_of, graphs_of, meter_text}

-- the class of these cards turns to another hold at x: a segment behind its first one begins there
abbrev pub turns_at : Metering → ℕ → ℕ → ℕ → List ℕ → Bool
turns_at m lo hi x cards = begins_at x (graph_of m lo hi cards)

-- the numbers of a piece: how many classes and how many deals turn to another hold where it begins, and the sums over all deals of the
-- bases and of the slopes that are in force there
pub record TellsPiece (m : Metering) (lo hi : ℕ) (p : Piece) : Type 0 where
  pub classes : p.classes ≡ count_by (turns_at m lo hi p.from) (representatives m.table.deck)
  pub deals : p.deals ≡ count_by (λ cards. turns_at m lo hi p.from (representative cards)) (all_deals m.table.deck)
  pub base : p.base ≡ sum_by (λ cards. (segment_in_force m lo hi p.from cards).base) (all_deals m.table.deck)
  pub slope : p.slope ≡ sum_by (λ cards. (segment_in_force m lo hi p.from cards).slope) (all_deals m.table.deck)

-- the answer is the meter of this bet and of the line with this name, which tells every deal, and so do the numbers of its pieces
pub record PrintsMeter (table : PayTable) (coin : ℕ) (name : List ℕ) (lo hi : ℕ) (due : Answer) : Type 0 where
  pub status : due.status ≡ Done
  pub text : due.text ≡ written (meter_text (metering_of coin name table) lo hi)
  pub metering : IsMetering (metering_of coin name table)
  pub named : name_at table (metering_of coin name table).place ≡ name
  pub tells : TellsMeter (metering_of coin name table) lo hi
  pub pieces_tell : All (TellsPiece (metering_of coin name table) lo hi) (pieces lo hi (graphs_of (metering_of coin name table) lo hi))

-- the text of `meter` to each pay table that it takes
abbrev pub MetersAreTold : Type 0
MetersAreTold = (coin lo hi : ℕ) (name bytes : List ℕ) (table : PayTable) → 1 ≤ coin → meter_input coin name bytes ≡ Ok (table, tt)
    → PrintsMeter table coin name lo hi (done (meter_due (record { metering = metering_of coin name table; lo = lo; hi = hi })).text)
