use Rattle.vp_text.proofs.Answered.{found, only, refused}
use Rattle.vp_rule.proofs.ListsGrammar.{Exact-pool}
use Rattle.vp_rule.proofs.pool.Pool.read.Goals as goal

pub returns-clause-found : goal.returns-clause-found
returns-clause-found c = found (Exact-pool _ c.requires) _ _ _ c.pool_at.ensures.read

pub returns-clause-only : goal.returns-clause-only
returns-clause-only c = only (Exact-pool _ c.requires) _ _ _ c.pool_at.ensures.read

pub returns-clause-refused : goal.returns-clause-refused
returns-clause-refused c = refused (Exact-pool _ c.requires) _ _ _ c.pool_at.ensures.read
