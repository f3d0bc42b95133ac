-- The games are those of the table.
use Rattle.vp_replay.proofs.job.ReplayJobWork.put.Goals as goal

pub returns : goal.returns
returns g c = rw (← c.self.view_is) (rw c.of-games.ensures.table at c.put_replay.ensures)
