use Rattle.std.proofs.Common.{◌≡◌, map, take, string_bytes}
use Rattle.vp_run.proofs.arguments.slices_of.Given as goal

abbrev pub invariant-loop-text : goal.invariant-loop-text
invariant-loop-text l = map (λ w. w.now) l.words.items ≡ map string_bytes (take l.text-index l.texts)
