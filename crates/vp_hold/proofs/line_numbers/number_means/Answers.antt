use Rattle.std.proofs.Common.{◌≡◌, ◌+◌, length, ◌∙◌, arith, length-drop, length-take}
use Rattle.vp_count.specs.Table.{first_word}
use Rattle.vp_count.proofs.HandNumbers.{words_before, five_written, written_small}
use Rattle.vp_hold.specs.Numbers.{by_line}
use Rattle.vp_hold.proofs.Numbers.{number_le}
use Rattle.vp_hold.proofs.line_numbers.number_means.Goals as goal

pub overflow_sub-first : goal.overflow_sub-first
overflow_sub-first g c = omega (arith, words_before c.args.table.now.deck c.choose-hands.result c.args.words.now c.requires.long c.choose-hands.ensures)

pub write_numbers-requires-clause-long : goal.write_numbers-requires-clause-long
write_numbers-requires-clause-long g c =
    let long : length c.args.words.now ≡ first_word c.args.table.now.deck 5 + c.choose-hands.result = words_before c.args.table.now.deck c.choose-hands.result c.args.words.now c.requires.long c.choose-hands.ensures in
    grind (arith, length-take, length-drop, c.choose-hands.ensures)

pub fill-requires-clause-deck : goal.fill-requires-clause-deck
fill-requires-clause-deck g c = c.requires.rules.known_deck

pub fill-requires-clause-bounded : goal.fill-requires-clause-bounded
fill-requires-clause-bounded g c =
    written_small c.args.table.now.deck c.choose-hands.result c.args.words.now c.write_numbers.new.words (by_line c.args.table.now c.args.numbers.now) c.requires.long c.choose-hands.ensures c.write_numbers.ensures.numbers (λ hand. number_le c.args.table.now c.args.numbers.now hand c.requires.bounded)

pub returns-clause-sums : goal.returns-clause-sums
returns-clause-sums g c = record {
  size = c.fill.ensures.size;
  numbers = c.fill.ensures.numbers ∙ five_written c.args.table.now.deck c.choose-hands.result c.args.words.now c.write_numbers.new.words c.requires.long c.choose-hands.ensures ∙ c.write_numbers.ensures.numbers;
}
