use Rattle.std.proofs.Common.{map, drop}
use Rattle.vp_io.proofs.PutSoFar.{PutSoFar}
use Rattle.vp_text.specs.Written.{written}
use Rattle.vp_rule.specs.Spelling.{rule_words}
use Rattle.vp_audit.specs.Compiled.{ordered}
use Rattle.vp_audit.proofs.writing.put_rules.Given as goal

abbrev pub invariant-loop-place : goal.invariant-loop-place
invariant-loop-place g l =
    PutSoFar (g.K.Sink.told l.fn.sink) (g.K.Sink.told l.sink) (written (map (rule_words l.table) (ordered l.rules l.order))) (written (map (rule_words l.table) (ordered l.rules (drop l.place-index l.order))))
