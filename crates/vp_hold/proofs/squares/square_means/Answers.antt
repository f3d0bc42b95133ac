use Rattle.std.proofs.Common.{◌≡◌, ◌+◌, length, ◌∙◌, arith, length-drop, length-take}
use Rattle.vp_count.specs.Table.{first_word}
use Rattle.vp_count.proofs.HandNumbers.{words_before, five_written}
use Rattle.vp_hold.proofs.SquaredPayments.{squares_small}
use Rattle.vp_hold.proofs.squares.square_means.Goals as goal

pub overflow_sub-first : goal.overflow_sub-first
overflow_sub-first c = omega (arith, words_before c.args.n (length c.args.payments.now) c.args.words.now c.requires.long c.requires.many)

pub write_squares-requires-clause-long : goal.write_squares-requires-clause-long
write_squares-requires-clause-long c =
    let long : length c.args.words.now ≡ first_word c.args.n 5 + length c.args.payments.now = words_before c.args.n (length c.args.payments.now) c.args.words.now c.requires.long c.requires.many in
    grind (arith, length-take, length-drop)

pub fill-requires-clause-bounded : goal.fill-requires-clause-bounded
fill-requires-clause-bounded c = squares_small c.args.n (length c.args.payments.now) c.args.words.now c.write_squares.new.squares c.args.payments.now c.requires.long c.requires.many c.write_squares.ensures c.requires.small

pub returns-clause-numbers : goal.returns-clause-numbers
returns-clause-numbers c = c.fill.ensures.numbers ∙ five_written c.args.n (length c.args.payments.now) c.args.words.now c.write_squares.new.squares c.requires.long c.requires.many ∙ c.write_squares.ensures
