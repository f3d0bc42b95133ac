use Rattle.vp_text.proofs.UpTo.{ahead_more, ahead_full, ahead_none, ahead_end}
use Rattle.vp_text.proofs.laws.values_are_read_in_turn.Goals as goal

pub returns-clause-more : goal.returns-clause-more
returns-clause-more g c = λ most behind front word words left value less read. ahead_more most behind front word words left value less read

pub returns-clause-full : goal.returns-clause-full
returns-clause-full g c = λ most behind front word words full. ahead_full most behind front word words full

pub returns-clause-none : goal.returns-clause-none
returns-clause-none g c = λ most behind front word words less read. ahead_none most behind front word words less read

pub returns-clause-end : goal.returns-clause-end
returns-clause-end g c = λ most behind front. ahead_end most behind front
