use Rattle.std.proofs.Common.{◌≡◌, map, take}
use Rattle.vp_audit.specs.Compiled.{rule_cell}
use Rattle.vp_audit.proofs.choices.Choices.fill_cells.Given as goal

abbrev pub invariant-loop-place : goal.invariant-loop-place
invariant-loop-place l = take l.place l.cells ≡ map (rule_cell l.self.table l.self.coin l.self.hand) (take l.place l.rules)
