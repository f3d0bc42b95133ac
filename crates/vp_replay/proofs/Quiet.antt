-- Games that are added up where nothing is put.
use Rattle.std.proofs.Common.{◌≡◌, ℕ, ◌^◌, ◌<◌, ◌≤◌, false, List, [], ◌∷◌, length, refl, subst, arith, None, Ok}
use Rattle.std.proofs.KnownBytes.{Appends-nil}
use Rattle.vp_io.specs.Puts.{Puts}
use Rattle.vp_io.specs.Streams.{Told}
use Rattle.vp_io.specs.declared.fault.WriteFault.{WriteFault}
use Rattle.vp_pay.specs.declared.table.PayTable.{PayTable}
use Rattle.vp_pay.specs.Table.{IsTable}
use Rattle.vp_loggram.specs.Logs.{LogValue}
use Rattle.vp_loggram.specs.declared.event.Event.{Event}
use Rattle.vp_replay.specs.declared.summary.Summary.{Summary}
use Rattle.vp_replay.specs.Costs.{cost_of}
use Rattle.vp_replay.specs.Adding.{added}
use Rattle.vp_replay.specs.Summaries.{AllBet}
use Rattle.vp_replay.proofs.SoFar.{Next, SoFar, next, next_game}

-- a sink that tells nothing
abbrev pub quiet : Told
quiet = record { bytes = None; faults = 0 }

-- no bytes are put at once
put_none : Puts {T = Unit {0}} {E = WriteFault} quiet quiet (Ok tt) []
put_none = record { all = Appends-nil quiet.bytes; part = tt; cause = record { later = omega arith; failed = tt; kept = refl } }

-- the numbers have room for the next game
pub room_for_next : (table : PayTable) (log : LogValue) (left rest : List Event) (e : Event) (s : Summary) → left ≡ e ∷ rest → IsTable table → length log.events ≤ 67108864
    → SoFar table false log left s quiet quiet → Next table e s
room_for_next table log left rest e s split is few so = next_game table false log left rest e s split quiet quiet is few so

-- one more game was added
pub next_added : (table : PayTable) (log : LogValue) (left rest : List Event) (e : Event) (s t : Summary) (cost : ℕ) → left ≡ e ∷ rest → IsTable table → length log.events ≤ 67108864
    → cost ≡ cost_of table e → cost < 2 ^ 64 → t ≡ added s e cost → SoFar table false log left s quiet quiet → SoFar table false log rest t quiet quiet
next_added table log left rest e s t cost split is few costs small more so = next table false log left rest e s split t cost quiet quiet quiet (Ok tt) tt is few costs small refl put_none more so

-- the next game bets the same, and so do those behind it
pub next_bet : (coin : ℕ) (left rest : List Event) (e : Event) → left ≡ e ∷ rest → AllBet coin left → (e.bet ≡ coin) × AllBet coin rest
next_bet coin left rest e split bets = subst (λ (es : List Event). AllBet coin es) split bets
