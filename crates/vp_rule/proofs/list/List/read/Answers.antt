use Rattle.vp_text.proofs.Answered.{found, only, refused}
use Rattle.vp_rule.proofs.Kept.{as_read}
use Rattle.vp_rule.proofs.ListsGrammar.{Exact-list}
use Rattle.vp_rule.proofs.list.List.read.Goals as goal

pub returns-clause-found : goal.returns-clause-found
returns-clause-found c = found (Exact-list _ c.requires) _ _ _ (as_read _ _ _ _ c.list_at.ensures.read)

pub returns-clause-only : goal.returns-clause-only
returns-clause-only c = only (Exact-list _ c.requires) _ _ _ (as_read _ _ _ _ c.list_at.ensures.read)

pub returns-clause-refused : goal.returns-clause-refused
returns-clause-refused c = refused (Exact-list _ c.requires) _ _ _ (as_read _ _ _ _ c.list_at.ensures.read)

pub returns-clause-exact : goal.returns-clause-exact
returns-clause-exact c = as_read _ _ _ _ c.list_at.ensures.read
