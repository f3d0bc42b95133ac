-- What was written last in both tables are the numbers of all sets of five.
use Rattle.std.proofs.Common.{◌≡◌, length, sym, ◌∙◌, arith, length-drop, length-take}
use Rattle.vp_count.proofs.HandNumbers.{words_before, five_written, written_small}
use Rattle.vp_meter.specs.Metered.{base_pay, hit}
use Rattle.vp_meter.proofs.Straight.{base_small, hit_small}
use Rattle.vp_meter.proofs.metered_bet.Metered.fill.Goals as goal

pub overflow_sub-first : goal.overflow_sub-first
overflow_sub-first g c = omega (arith, words_before c.args.table.now.deck c.choose-hands.result c.args.base.now c.requires.long c.choose-hands.ensures)

pub write_parts-requires-clause-long : goal.write_parts-requires-clause-long
write_parts-requires-clause-long g c =
    let long = words_before c.args.table.now.deck c.choose-hands.result c.args.base.now c.requires.long c.choose-hands.ensures in
    grind (arith, length-take, length-drop, c.choose-hands.ensures)

pub write_parts-requires-clause-also : goal.write_parts-requires-clause-also
write_parts-requires-clause-also g c =
    let same : length c.args.hits.now ≡ length c.args.base.now = c.requires.also ∙ sym c.requires.long in
    let long = words_before c.args.table.now.deck c.choose-hands.result c.args.base.now c.requires.long c.choose-hands.ensures in
    grind (arith, length-take, length-drop, c.choose-hands.ensures)

pub fill-requires-clause-deck : goal.fill-requires-clause-deck
fill-requires-clause-deck g c = c.requires.bet.rules.known_deck

pub fill-requires-2-clause-deck : goal.fill-requires-2-clause-deck
fill-requires-2-clause-deck g c = c.requires.bet.rules.known_deck

pub fill-requires-clause-bounded : goal.fill-requires-clause-bounded
fill-requires-clause-bounded g c =
    written_small c.args.table.now.deck c.choose-hands.result c.args.base.now c.write_parts.new.base (base_pay c.args.table.now c.args.coin c.args.line) c.requires.long c.choose-hands.ensures c.write_parts.ensures.base (λ hand. base_small c.args.table.now c.args.coin c.args.line hand c.requires.bet.rules)

pub fill-requires-2-clause-bounded : goal.fill-requires-2-clause-bounded
fill-requires-2-clause-bounded g c =
    let same : length c.args.hits.now ≡ length c.args.base.now = c.requires.also ∙ sym c.requires.long in
    rw (← same) (written_small c.args.table.now.deck c.choose-hands.result c.args.hits.now c.write_parts.new.hits (hit c.args.table.now c.args.line) c.requires.also c.choose-hands.ensures c.write_parts.ensures.hits (λ hand. hit_small c.args.table.now c.args.line hand))

pub invariant_of-result : goal.invariant_of-result
invariant_of-result g c =
    let same : length c.args.hits.now ≡ length c.args.base.now = c.requires.also ∙ sym c.requires.long in
    record {
      metering = record { bet = c.requires.bet; inside = c.requires.inside };
      base = record {
        size = c.fill.ensures.size;
        numbers = c.fill.ensures.numbers ∙ (five_written c.args.table.now.deck c.choose-hands.result c.args.base.now c.write_parts.new.base c.requires.long c.choose-hands.ensures ∙ c.write_parts.ensures.base);
      };
      hits = record {
        size = c.fill-2.ensures.size;
        numbers = c.fill-2.ensures.numbers ∙ (rw (← same) (five_written c.args.table.now.deck c.choose-hands.result c.args.hits.now c.write_parts.new.hits c.requires.also c.choose-hands.ensures) ∙ c.write_parts.ensures.hits);
      };
    }
