-- A line of a log is a game, or its end.
use Rattle.std.proofs.Common.{Err, ap, sym, ◌∙◌}
use Rattle.vp_loggram.proofs.Next_games.{has_end, has_game, has_neither}
use Rattle.vp_loggram.proofs.log.next_game.Goals as goal

pub returns-then-only_is-clause-read : goal.returns-then-only_is-clause-read
returns-then-only_is-clause-read c =
    let next = c.in_ok-words.ensures.next in
    has_end c.args.deck c.args.lines.now c.next_wanted.new.self c.in_ok-words.words next.0 next.2 next.1 (sym c.only_is.ensures ∙ c.if-only_is.true)

pub returns-in-Some-clause-read : goal.returns-in-Some-clause-read
returns-in-Some-clause-read c =
    let next = c.in_ok-words.ensures.next in
    has_game c.args.deck c.args.lines.now c.next_wanted.new.self c.in_ok-words.words next.0 next.2 next.1 c.in-Some.event (sym c.only_is.ensures ∙ c.if-only_is.false) (sym c.event_of.ensures ∙ c.in-Some.is)

pub returns-in-None-clause-read : goal.returns-in-None-clause-read
returns-in-None-clause-read c =
    let next = c.in_ok-words.ensures.next in
    has_neither c.args.deck c.args.lines.now c.next_wanted.new.self c.in_ok-words.words next.0 next.2 next.1 (sym c.only_is.ensures ∙ c.if-only_is.false) (sym c.event_of.ensures ∙ c.in-None.is) ∙ ap Err (sym c.line-line.ensures)
