-- What a sink over lent room tells.
use Rattle.std.specs.Prelude.{ℕ, Bool, List, ◌∷◌, length, take, Some, if◌then◌else◌}
use Rattle.vp_io.specs.Causes.{last_count}
use Rattle.vp_io.specs.Streams.{Told}
use Rattle.vpoker_lent.specs.declared.room_sink.RoomSink.{RoomSink}

-- the name of the loan of the room, how many bytes it has room for, those that were taken, and whether a write failed
pub record Kept : Type 0 where
  pub name : ℕ
  pub limit : ℕ
  pub text : List ℕ
  pub is_cut : Bool

abbrev pub kept_by : RoomSink → Kept
kept_by s = record { name = s.room.ghost_name; limit = length s.room.now; text = take s.used s.room.now; is_cut = s.is_cut }

-- the name and the room are told before the bytes that were taken, and a first failed write counts as the last that is counted
abbrev pub told_of : Kept → Told
told_of kept = record { bytes = Some (kept.name ∷ kept.limit ∷ kept.text); faults = if kept.is_cut then last_count else 0 }

abbrev pub told_by : RoomSink → Told
told_by s = told_of (kept_by s)
