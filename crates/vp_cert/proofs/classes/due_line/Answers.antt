-- The best hold is the least best one, and has the greatest value.
use Rattle.std.proofs.Common.{refl}
use Rattle.vp_check.specs.Truth.{due_line}
use Rattle.vp_cert.proofs.classes.due_line.Goals as goal

pub returns-clause-line : goal.returns-clause-line
unfolding due_line
returns-clause-line g c = rw (c.requires.weight, c.best-best.ensures.least_best, c.best-best.ensures.best) refl
