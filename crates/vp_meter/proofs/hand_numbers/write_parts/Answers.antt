-- The places of the lines are written first, and both numbers in place of them.
use Rattle.std.proofs.Common.{◌∙◌}
use Rattle.vp_meter.specs.Metered.{base_pay, hit}
use Rattle.vp_meter.proofs.LineNumbers.{places_small, renumbered}
use Rattle.vp_meter.proofs.hand_numbers.write_parts.Goals as goal

pub renumber-requires-clause-inside : goal.renumber-requires-clause-inside
renumber-requires-clause-inside g c = places_small c.args.table.now c.line_places.result _ c.requires.bet.rules c.line_places.ensures (c.copy_from_slice.ensures.after ∙ c.write_numbers.ensures.numbers)

pub renumber-requires-2-clause-inside : goal.renumber-requires-2-clause-inside
renumber-requires-2-clause-inside g c = places_small c.args.table.now c.line_places.result _ c.requires.bet.rules c.line_places.ensures c.write_numbers.ensures.numbers

pub returns-clause-base : goal.returns-clause-base
returns-clause-base g c =
    c.renumber.ensures
    ∙ renumbered c.args.table.now (base_pay c.args.table.now c.args.coin c.args.place) c.line_places.result c.base_numbers.result _ c.requires.bet.rules c.line_places.ensures c.base_numbers.ensures (c.copy_from_slice.ensures.after ∙ c.write_numbers.ensures.numbers)

pub returns-clause-hits : goal.returns-clause-hits
returns-clause-hits g c =
    c.renumber-2.ensures
    ∙ renumbered c.args.table.now (hit c.args.table.now c.args.place) c.line_places.result c.hit_numbers.result _ c.requires.bet.rules c.line_places.ensures (c.hit_numbers.ensures c.args.table.now) c.write_numbers.ensures.numbers
