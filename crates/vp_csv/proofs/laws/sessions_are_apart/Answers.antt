use Rattle.vp_csv.proofs.Isolation.{apart, texts_apart}
use Rattle.vp_csv.proofs.laws.sessions_are_apart.Goals as goal

pub returns-clause-texts : goal.returns-clause-texts
returns-clause-texts c = texts_apart

pub returns-clause-records : goal.returns-clause-records
returns-clause-records c = apart
