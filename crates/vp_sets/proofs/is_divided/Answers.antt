use Rattle.std.proofs.Common.{rules}
use Rattle.vp_sets.proofs.Denominators.{five_parts}
use Rattle.vp_sets.proofs.is_divided.Goals as goal

pub returns-then-is_divided_at-4 : goal.returns-then-is_divided_at-4
returns-then-is_divided_at-4 c = rw (five_parts c.args.number c.args.n) (search rules)

pub returns-else-is_divided_at-4 : goal.returns-else-is_divided_at-4
returns-else-is_divided_at-4 c = rw (five_parts c.args.number c.args.n) (search rules)
