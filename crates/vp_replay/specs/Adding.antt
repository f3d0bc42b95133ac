-- How the numbers of a lawful log are reckoned, game by game: no public clause rests on this file.
use Rattle.std.specs.Prelude.{ℕ, ◌+◌, nat_lt, if◌then◌else◌}
use Rattle.vp_loggram.specs.declared.event.Event.{Event}
use Rattle.vp_replay.specs.declared.summary.Summary.{Summary}

-- the numbers of games and one more, whose hold has this cost
abbrev pub added : Summary → Event → ℕ → Summary
added s e cost = record {
  games = s.games + 1;
  bet = s.bet + e.bet;
  paid = s.paid + e.pay;
  credits = e.credits;
  slips = s.slips + (if nat_lt 0 cost then 1 else 0);
  loss = s.loss + cost;
}
