use Rattle.std.proofs.Common.{◌≡◌, ◌∷◌, ◌≤◌, ◌∙◌, ap, subst, sym, arith, refl, ℕ, List, length, get_or}
use Rattle.vp_pay.specs.declared.table.PayTable.{PayTable}
use Rattle.vp_sets.specs.Index.{IsSet}
use Rattle.vp_count.proofs.HandNumbers.{four_upper, lower_is_set, run_start, run_more, run_done}
use Rattle.vp_wild.specs.Kept.{slot}
use Rattle.vp_wild.proofs.KeptPlaces.{slot_small}
use Rattle.vp_hold.specs.Numbers.{by_line}
use Rattle.vp_hold.proofs.line_numbers.write_run.Goals as goal

pub loop-low-init : goal.loop-low-init
loop-low-init g c = record { run = run_start _ c.args.upper.now c.args.words.now c.requires.long; steps = omega arith; same = refl }

pub slot-slot-requires-clause-set : goal.slot-slot-requires-clause-set
slot-slot-requires-clause-set g c =
    subst (λ (s : List ℕ). IsSet 54 (c.loop-low.low ∷ s)) (sym (four_upper c.args.upper.now c.requires.four)) (lower_is_set 54 c.loop-low.low c.args.upper.now c.loop-low-test.true c.requires.set)

pub bounds-numbers-slot : goal.bounds-numbers-slot
bounds-numbers-slot g c =
    slot_small c.loop-low.kept _ c.slot-slot.result (subst (λ (t : PayTable). length t.lines.items ≤ 32) (sym c.loop-low.invariant.same) c.requires.few) c.slot-slot.ensures.slot

pub loop-low-preserved : goal.loop-low-preserved
loop-low-preserved g c =
    let hand = c.loop-low.low ∷ c.args.upper.now in
    let found : c.slot-slot.result ≡ slot c.args.kept.now hand =
    c.slot-slot.ensures.slot
    ∙ ap (λ (s : List ℕ). slot c.loop-low.kept (c.loop-low.low ∷ s)) (four_upper c.args.upper.now c.requires.four)
    ∙ ap (λ (t : PayTable). slot t hand) c.loop-low.invariant.same in
    let number : get_or c.args.numbers.now c.slot-slot.result 0 ≡ by_line c.args.kept.now c.args.numbers.now hand = ap (λ i. get_or c.args.numbers.now i 0) found in
    record {
      run = run_more _ c.args.upper.now c.loop-low.words c.loop-low.low _ c.loop-low-test.true number c.loop-low.invariant.run;
      steps = omega (arith, c.slot-slot.ensures.step, c.loop-low.invariant.steps);
      same = c.slot-slot.ensures.same ∙ c.loop-low.invariant.same;
    }

pub returns-clause-numbers : goal.returns-clause-numbers
returns-clause-numbers g c = run_done _ c.args.upper.now c.loop-low.words c.loop-low.low (omega arith) c.loop-low.invariant.run
