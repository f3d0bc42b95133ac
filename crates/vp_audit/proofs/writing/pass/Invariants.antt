use Rattle.std.proofs.Common.{◌≡◌, drop}
use Rattle.vp_audit.proofs.writing.pass.Given as goal

abbrev pub invariant-loop : goal.invariant-loop
invariant-loop l = l.classes ≡ drop l.counter l.fn.classes
