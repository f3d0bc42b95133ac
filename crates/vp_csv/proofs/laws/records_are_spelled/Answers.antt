use Rattle.vp_csv.proofs.RecordLaws.{game_is, header_is, opening_is}
use Rattle.vp_csv.proofs.laws.records_are_spelled.Goals as goal

pub returns-clause-header : goal.returns-clause-header
returns-clause-header c = header_is

pub returns-clause-opening : goal.returns-clause-opening
returns-clause-opening c = opening_is

pub returns-clause-game : goal.returns-clause-game
returns-clause-game c = game_is
