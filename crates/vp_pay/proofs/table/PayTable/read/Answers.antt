use Rattle.vp_text.proofs.Answered.{found, only, refused}
use Rattle.vp_text.proofs.Standing.{stands_refused}
use Rattle.vp_pay.proofs.Tables.{Exact-table}
use Rattle.vp_pay.proofs.table.PayTable.read.Goals as goal

pub returns-clause-found : goal.returns-clause-found
returns-clause-found c = found Exact-table _ _ _ c.table_at.ensures.read

pub returns-clause-only : goal.returns-clause-only
returns-clause-only c = only Exact-table _ _ _ c.table_at.ensures.read

pub returns-clause-refused : goal.returns-clause-refused
returns-clause-refused c = refused Exact-table _ _ _ c.table_at.ensures.read

pub returns-clause-stands : goal.returns-clause-stands
returns-clause-stands c = stands_refused _ _ _ c.table_at.ensures.leaves c.table_at.ensures.at
