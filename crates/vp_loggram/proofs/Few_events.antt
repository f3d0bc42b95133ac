-- There are at most as many games as lines.
use Rattle.std.proofs.Common.{ℕ, ◌+◌, ◌≤◌, List, [], ◌∷◌, length, Some, None, arith}
use Rattle.std.specs.Prelude.{Option}
use Rattle.vp_text.specs.Lines.{WordLine}
use Rattle.vp_text.specs.Streams.{in_front, front_items}
use Rattle.vp_loggram.specs.Reading.{event_of}
use Rattle.vp_loggram.specs.Sections.{events_in_front}
use Rattle.vp_loggram.specs.declared.event.Event.{Event}

few_in_front : (item : Option Event) (more : List Event) (n : ℕ) → length more ≤ n → length (in_front item more) ≤ n + 1
few_in_front None more n few = omega arith
few_in_front (Some event) more n few = omega (arith, few)

few_items : (n : ℕ) (lines : List WordLine) → length (front_items (event_of n) lines) ≤ length lines
few_items n [] = omega arith
few_items n (line ∷ lines) = let f = few_in_front (event_of n line.words) (front_items (event_of n) lines) (length lines) (few_items n lines) in omega (arith, f)

pub few_events : (n : ℕ) (lines : List WordLine) → length lines ≤ 67108864 → length (events_in_front n lines) ≤ 67108864
unfolding events_in_front
few_events n lines few = let f = few_items n lines in omega arith
