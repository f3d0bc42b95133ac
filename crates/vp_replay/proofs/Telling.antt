-- The text that is told of a log, and that no costs are shown where they are not to be.
use Rattle.std.proofs.Common.{◌≡◌, ℕ, ◌+◌, true, false, List, [], ◌∷◌, ◌++◌, refl}
use Rattle.std.proofs.lemmas.Grind.{flat_map-append}
use Rattle.vp_text.specs.Written.{line_of, written}
use Rattle.vp_pay.specs.declared.table.PayTable.{PayTable}
use Rattle.vp_loggram.specs.Logs.{LogValue}
use Rattle.vp_loggram.specs.declared.event.Event.{Event}
use Rattle.vp_replay.specs.declared.summary.Summary.{Summary}
use Rattle.vp_replay.specs.Summaries.{cost_lines, replay_lines, summary_lines, summary_of}

-- the lines of costs, and those of the numbers behind them
pub replay_text : (table : PayTable) (log : LogValue) → written (replay_lines table log) ≡ written (cost_lines table true 1 log.events) ++ written (summary_lines table.deck (summary_of table log))
replay_text table log = flat_map-append line_of (cost_lines table true 1 log.events) (summary_lines table.deck (summary_of table log))

-- the same lines, of the same numbers and the same deck
pub same_numbers : (table told : PayTable) (log : LogValue) (s : Summary) (n : ℕ) → n ≡ told.deck → told ≡ table → s ≡ summary_of table log → written (summary_lines n s) ≡ written (summary_lines table.deck (summary_of table log))
same_numbers table told log s n of_deck same is = rw (of_deck, same, is) refl

-- where costs are not shown, there are no lines of them
pub no_costs : (table : PayTable) (game : ℕ) (events : List Event) → cost_lines table false game events ≡ []
unfolding cost_lines
no_costs table game [] = refl
no_costs table game (e ∷ rest) = no_costs table (game + 1) rest
