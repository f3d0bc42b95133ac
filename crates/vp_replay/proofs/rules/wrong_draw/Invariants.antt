use Rattle.std.proofs.Common.{◌≡◌, take, drop, []}
use Rattle.vp_replay.specs.Rules.{first_wrong, wrong_draw}
use Rattle.vp_replay.proofs.rules.wrong_draw.Given as goal

abbrev pub invariant-loop-place : goal.invariant-loop-place
invariant-loop-place l = first_wrong (wrong_draw l.deal) (take l.place l.cards) (drop l.place l.cards) ≡ first_wrong (wrong_draw l.deal) [] l.cards
