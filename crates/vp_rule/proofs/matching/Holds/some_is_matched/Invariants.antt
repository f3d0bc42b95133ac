use Rattle.std.proofs.Common.{◌≡◌, false, take}
use Rattle.std.specs.List.{list_any}
use Rattle.vp_rule.specs.Holds.{matches}
use Rattle.vp_rule.proofs.matching.Holds.some_is_matched.Given as goal

abbrev pub invariant-loop-mask : goal.invariant-loop-mask
invariant-loop-mask l = list_any (λ mask. matches l.self.table l.rule l.self.hand mask) (take l.mask-index l.mask-items) ≡ false
