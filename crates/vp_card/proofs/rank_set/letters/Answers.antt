use Rattle.std.proofs.Common.{◌<◌, ◌≤◌, arith, ap, length, length-append}
use Rattle.vp_card.proofs.Hands.{held_taken, held_left, held_end}
use Rattle.vp_card.proofs.RankSets.{letters_are}
use Rattle.vp_card.proofs.rank_set.letters.Goals as goal
use Rattle.vp_card.proofs.rank_set.letters.Goals.{then-bits-eq1, else-bits-eq1}

pub loop-letter-preserved : goal.loop-letter-preserved
loop-letter-preserved c =
    let inside : c.loop-letter.letter-index < length c.rank_letters-letter-items.result.now =
    omega (arith, letters_are, ap length c.rank_letters-letter-items.ensures)
    in record {
      so_far = elim c.if-bits-eq1.branch [
        | then-bits-eq1 w ↦ rw (w.text-is, w.push.ensures.items) (held_taken _ _ _ _ _ w.if-bits-eq1.true inside c.loop-letter.invariant.so_far)
        | else-bits-eq1 w ↦ rw w.text-is (held_left _ _ _ _ _ w.if-bits-eq1.false inside c.loop-letter.invariant.so_far)
      ];
      room = elim c.if-bits-eq1.branch [
        | then-bits-eq1 w ↦ rw (w.text-is, w.push.ensures.items) (omega (arith, length-append c.loop-letter.text.items))
        | else-bits-eq1 w ↦ rw w.text-is (omega arith)
      ];
    }

pub returns : goal.returns
returns c =
    let past : length c.rank_letters-letter-items.result.now ≤ c.loop-letter.letter-index =
    omega (arith, letters_are, ap length c.rank_letters-letter-items.ensures)
    in held_end _ _ _ _ _ past c.loop-letter.invariant.so_far
