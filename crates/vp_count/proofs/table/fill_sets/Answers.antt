use Rattle.std.proofs.Common.{length, arith}
use Rattle.vp_count.specs.Table.{five_numbers}
use Rattle.vp_count.proofs.Fill.{filled_start, filled_room, filled_small, filled_next, filled_place, filled_done}
use Rattle.vp_count.proofs.table.fill_sets.Goals as goal

pub loop-i-init : goal.loop-i-init
loop-i-init c = filled_start c.args.n (length c.args.set.now) c.args.words.now c.args.set.now c.requires.sums c.requires.first

pub sum_above-requires-clause-room : goal.sum_above-requires-clause-room
sum_above-requires-clause-room c = filled_room c.args.n (length c.args.set.now) (five_numbers c.args.n c.args.words.now) c.loop-i.words c.loop-i.set c.loop-i.i c.first_word-above.result c.requires.few c.first_word-above.ensures c.loop-i.invariant

pub sum_above-requires-clause-small : goal.sum_above-requires-clause-small
sum_above-requires-clause-small c = filled_small c.args.n (length c.args.set.now) (five_numbers c.args.n c.args.words.now) c.loop-i.words c.loop-i.set c.loop-i.i c.first_word-above.result c.requires.deck c.requires.few c.first_word-above.ensures c.requires.bounded c.loop-i.invariant

pub overflow_add-words : goal.overflow_add-words
overflow_add-words c = omega (arith, filled_place c.args.n (length c.args.set.now) (five_numbers c.args.n c.args.words.now) c.loop-i.words c.loop-i.set c.loop-i.i c.first_word-start.result c.requires.few (omega (arith, c.choose-i-end.ensures)) c.first_word-start.ensures c.loop-i.invariant)

pub offset_bounds-words-start : goal.offset_bounds-words-start
offset_bounds-words-start c = omega (arith, filled_place c.args.n (length c.args.set.now) (five_numbers c.args.n c.args.words.now) c.loop-i.words c.loop-i.set c.loop-i.i c.first_word-start.result c.requires.few (omega (arith, c.choose-i-end.ensures)) c.first_word-start.ensures c.loop-i.invariant)

pub bounds-words-start : goal.bounds-words-start
bounds-words-start c = filled_place c.args.n (length c.args.set.now) (five_numbers c.args.n c.args.words.now) c.loop-i.words c.loop-i.set c.loop-i.i c.first_word-start.result c.requires.few (omega (arith, c.choose-i-end.ensures)) c.first_word-start.ensures c.loop-i.invariant

pub loop-i-preserved : goal.loop-i-preserved
loop-i-preserved c = filled_next c.args.n (length c.args.set.now) (five_numbers c.args.n c.args.words.now) c.loop-i.words c.loop-i.set c.loop-i.i c.first_word-start.result c.first_word-above.result c.sum_above.result c.from-others.result c.next_set.new.set c.next_set.result c.requires.few (omega (arith, c.choose-i-end.ensures)) c.first_word-start.ensures c.first_word-above.ensures c.sum_above.ensures c.from-others.ensures c.loop-i.invariant
    (record { more_is = c.next_set.ensures.more; next = c.next_set.ensures.next; last = c.next_set.ensures.last })

pub returns-clause-sums : goal.returns-clause-sums
returns-clause-sums c = filled_done c.args.n (length c.args.set.now) (five_numbers c.args.n c.args.words.now) c.loop-i.words c.loop-i.set c.loop-i.i (omega (arith, c.choose-i-end.ensures)) c.loop-i.invariant
