-- Each exception is put behind those before it.
use Rattle.std.proofs.Common.{◌≡◌, ◌≤◌, ◌<◌, get_or, length, arith}
use Rattle.std.proofs.lemmas.List.Elements.{All-get_or}
use Rattle.vp_suit.specs.Classes.{representatives}
use Rattle.vp_io.proofs.PutSoFar.{put_halted, put_more}
use Rattle.vp_audit.specs.Compiled.{class_at}
use Rattle.vp_audit.proofs.ListLines.{class_behind, class_cards, exceptions_left, left_behind}
use Rattle.vp_audit.proofs.writing.put_exceptions.Goals as goal

pub put_exception-requires : goal.put_exception-requires
put_exception-requires g c =
    let n = c.args.game.now.table.deck in
    let place = get_or c.args.places.now c.loop-place.place-index 0 in
    let low : place < length (representatives n) = All-get_or (λ place. place < length (representatives n)) c.args.places.now c.loop-place.place-index 0 c.loop-place-test.true c.requires.below in
    class_cards n place _ low (class_behind n c.loop-place.passed place _ _ c.loop-place.invariant.left (c.loop-place.invariant.next c.loop-place-test.true) c.hand_behind-hand.ensures.hand)

pub returns-in_err-put_exception : goal.returns-in_err-put_exception
returns-in_err-put_exception g c =
    let n = c.args.game.now.table.deck in
    let place = get_or c.args.places.now c.loop-place.place-index 0 in
    let hand : c.hand_behind-hand.result ≡ class_at n place = class_behind n c.loop-place.passed place _ _ c.loop-place.invariant.left (c.loop-place.invariant.next c.loop-place-test.true) c.hand_behind-hand.ensures.hand in
    put_halted _ (exceptions_left c.args.game.now.table c.args.game.now.coin c.args.places.now c.loop-place.place-index _ c.loop-place-test.true hand)
    c.in_err-put_exception.was c.from_residual.ensures.0 c.put_exception.ensures c.loop-place.invariant.put

pub loop-place-preserved : goal.loop-place-preserved
loop-place-preserved g c =
    let n = c.args.game.now.table.deck in
    let place = get_or c.args.places.now c.loop-place.place-index 0 in
    let low : c.loop-place.passed ≤ place = c.loop-place.invariant.next c.loop-place-test.true in
    let hand : c.hand_behind-hand.result ≡ class_at n place = class_behind n c.loop-place.passed place _ _ c.loop-place.invariant.left low c.hand_behind-hand.ensures.hand in
    record {
      left = left_behind n c.loop-place.passed place _ _ c.loop-place.invariant.left low c.hand_behind-hand.ensures.left;
      next = λ more. omega (arith, c.requires.rising c.loop-place.place-index more);
      put =
          put_more (exceptions_left c.args.game.now.table c.args.game.now.coin c.args.places.now c.loop-place.place-index _ c.loop-place-test.true hand)
          c.in_ok-put_exception.was c.put_exception.ensures c.loop-place.invariant.put;
    }
