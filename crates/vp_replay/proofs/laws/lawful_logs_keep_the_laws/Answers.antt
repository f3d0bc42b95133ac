-- Games that break no law are lawful, and lawful games break none.
use Rattle.vp_replay.proofs.Runs.{kept_games, lawful_games}
use Rattle.vp_replay.proofs.laws.lawful_logs_keep_the_laws.Goals as goal

pub returns : goal.returns
returns c = λ table log. (lawful_games table 1 log.start log.events, kept_games table 1 log.start log.events)
