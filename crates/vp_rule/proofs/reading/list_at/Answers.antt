use Rattle.vp_text.proofs.Standing.{leaves_then}
use Rattle.vp_rule.proofs.reading.list_at.Goals as goal

pub returns-in_err-rules-clause-leaves : goal.returns-in_err-rules-clause-leaves
returns-in_err-rules-clause-leaves c = leaves_then _ _ _ c.version_line.ensures.leaves c.list_rules.ensures.leaves

pub returns-clause-leaves : goal.returns-clause-leaves
returns-clause-leaves c = leaves_then _ _ _ c.version_line.ensures.leaves c.list_rules.ensures.leaves
