use Rattle.std.proofs.Common.{◌≡◌, ◌+◌, ◌-◌, ◌≤◌, ◌∙◌, ap, subst, sym, arith, length, map, get_or}
use Rattle.vp_pay.specs.declared.table.PayTable.{PayTable}
use borrow.Rule.Slice.PartMut.{put_mid}
use Rattle.vp_sets.proofs.Pascal.{choose_five}
use Rattle.vp_count.proofs.Scan.{set_wider}
use Rattle.vp_count.specs.Runs.{run}
use Rattle.vp_count.proofs.HandNumbers.{Written, written_start, written_room, written_more, written_done, written_whole}
use Rattle.vp_hold.specs.Numbers.{by_line}
use Rattle.vp_hold.proofs.line_numbers.write_numbers.Goals as goal

pub loop-init : goal.loop-init
loop-init g c = record {
  written = written_start c.args.table.now.deck _ c.args.words.now (omega (arith, c.requires.rules.known_deck.0)) c.requires.long;
  steps = omega arith;
  table = c.new-kept.ensures;
}

pub overflow_add-end : goal.overflow_add-end
overflow_add-end g c = omega (
  arith,
  written_room c.args.table.now.deck _ c.loop.words c.loop.upper c.loop.counter c.loop.first (omega (arith, c.choose-end.ensures)) c.loop.invariant.written,
  c.loop.invariant.written.long,
  choose_five c.args.table.now.deck c.requires.rules.known_deck.1,
)

pub offset_bounds-words-first : goal.offset_bounds-words-first
offset_bounds-words-first g c = omega (
  arith,
  written_room c.args.table.now.deck _ c.loop.words c.loop.upper c.loop.counter c.loop.first (omega (arith, c.choose-end.ensures)) c.loop.invariant.written,
  c.loop.invariant.written.long,
  choose_five c.args.table.now.deck c.requires.rules.known_deck.1,
)

pub slice_bounds-write_run-end : goal.slice_bounds-write_run-end
slice_bounds-write_run-end g c =
    written_room c.args.table.now.deck (by_line c.args.table.now c.args.numbers.now) c.loop.words c.loop.upper c.loop.counter c.loop.first (omega (arith, c.choose-end.ensures)) c.loop.invariant.written

pub write_run-requires-clause-few : goal.write_run-requires-clause-few
write_run-requires-clause-few g c = subst (λ (t : PayTable). length t.lines.items ≤ 32) (sym c.loop.invariant.table) c.requires.rules.most_lines

pub write_run-requires-clause-four : goal.write_run-requires-clause-four
write_run-requires-clause-four g c = (c.loop.invariant.written.next (omega (arith, c.choose-end.ensures))).many

pub write_run-requires-clause-set : goal.write_run-requires-clause-set
write_run-requires-clause-set g c = set_wider c.args.table.now.deck 54 c.loop.upper (c.requires.rules.known_deck.1) (c.loop.invariant.written.next (omega (arith, c.choose-end.ensures))).is_set

pub next_set-requires-clause-set : goal.next_set-requires-clause-set
next_set-requires-clause-set g c = (c.loop.invariant.written.next (omega (arith, c.choose-end.ensures))).is_set

pub loop-preserved : goal.loop-preserved
loop-preserved g c =
    let many : c.loop.first + get_or c.loop.upper 0 0 - c.loop.first ≡ get_or c.loop.upper 0 0 = omega arith in
    let written : c.write_run.new.words ≡ map (by_line c.args.table.now c.args.numbers.now) (run c.loop.upper) =
    c.write_run.ensures.numbers ∙ ap (λ (t : PayTable). map (by_line t c.args.numbers.now) (run c.loop.upper)) c.loop.invariant.table in
    record {
      written = subst (λ k. Written c.args.table.now.deck (by_line c.args.table.now c.args.numbers.now) (put_mid c.loop.first (c.loop.first + get_or c.loop.upper 0 0 - c.loop.first) c.loop.words c.write_run.new.words) c.next_set.new.set (c.loop.counter + 1) (c.loop.first + k)) many
          (written_more _ _ c.loop.words c.loop.upper c.next_set.new.set c.write_run.new.words c.loop.counter c.loop.first (c.loop.first + get_or c.loop.upper 0 0 - c.loop.first) c.next_set.result (omega (arith, c.choose-end.ensures)) c.loop.invariant.written many written
          (record { more_is = c.next_set.ensures.more; next = c.next_set.ensures.next }));
      steps = omega (arith, c.write_run.ensures.steps, c.loop.invariant.steps);
      table = c.write_run.ensures.same ∙ c.loop.invariant.table;
    }

pub returns-clause-numbers : goal.returns-clause-numbers
returns-clause-numbers g c = written_done c.args.table.now.deck _ c.loop.words c.loop.upper c.loop.counter c.loop.first (omega (arith, c.choose-end.ensures)) c.loop.invariant.written

pub returns-clause-steps : goal.returns-clause-steps
returns-clause-steps g c = omega (arith, c.loop.invariant.steps, written_whole c.args.table.now.deck _ c.loop.words c.loop.upper c.loop.counter c.loop.first (omega (arith, c.choose-end.ensures)) c.loop.invariant.written)
