use Rattle.std.proofs.Common.{◌≡◌, ◌<◌, ◌≤◌, drop, get_or, length, map}
use Rattle.vp_io.proofs.PutSoFar.{PutSoFar}
use Rattle.vp_text.specs.Written.{written}
use Rattle.vp_suit.specs.Classes.{representatives}
use Rattle.vp_rule.specs.Spelling.{except_words}
use Rattle.vp_audit.specs.Compiled.{best_exception}
use Rattle.vp_audit.proofs.writing.put_exceptions.Given as goal

abbrev pub invariant-loop-place : goal.invariant-loop-place
invariant-loop-place g l = record {
  left : l.classes ≡ drop l.passed (representatives l.game.table.deck);
  next : l.place-index < length l.places → l.passed ≤ get_or l.places l.place-index 0;
  put : PutSoFar (g.K.Sink.told l.fn.sink) (g.K.Sink.told l.sink) (written (map except_words (map (best_exception l.game.table l.game.coin) l.places))) (written (map except_words (map (best_exception l.game.table l.game.coin) (drop l.place-index l.places))));
}
