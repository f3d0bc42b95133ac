use Rattle.std.proofs.Common.{◌≡◌, ◌+◌, ◌<◌, ◌≤◌, ℕ, List, length, get_or, refl, ap, sym, ◌∙◌, arith}
use Rattle.vp_card.specs.Cards.{held}
use Rattle.vp_sets.specs.Index.{IsSet}
use Rattle.vp_count.specs.Sums.{containing, raised_by, spread}
use Rattle.vp_count.proofs.Passes.{entry, entry-zero, entry-five}
use Rattle.vp_count.proofs.Masks.{Passed, passed_part, passed_within, passed_more, bit_pos, bit_small, one_bit}
use Rattle.vp_count.proofs.totals.all_totals.Goals as goal

start : (n : ℕ) (w hand totals : List ℕ) → ((m : ℕ) → m < 32 → get_or totals m 0 ≡ containing n w (held m hand)) → Passed n w hand totals 1 0
start n w hand totals h = record { bit_is = refl; entries = λ m l. h m l ∙ sym (entry-zero n w hand m) }

done : (n : ℕ) (w hand totals : List ℕ) (bit p : ℕ) → IsSet n hand → length hand ≡ 5 → p ≡ 5 → Passed n w hand totals bit p → (m : ℕ) → m < 32 → get_or totals m 0 ≡ spread n w hand m
done n w hand totals bit p h five e q m l = q.entries m l ∙ ap (λ x. entry n w hand x m) e ∙ entry-five n w hand m h five

pub loop-place-init : goal.loop-place-init
loop-place-init g c = start (g.T.Sums.size c.args.sums.now) (g.T.Sums.numbers c.args.sums.now) c.args.hand.now c.held_sums-totals.result c.held_sums-totals.ensures.sums

pub leave_out-requires-clause-bit : goal.leave_out-requires-clause-bit
leave_out-requires-clause-bit g c = omega (arith, c.loop-place.invariant.bit_is, bit_pos c.loop-place._place)

pub leave_out-requires-clause-within : goal.leave_out-requires-clause-within
leave_out-requires-clause-within g c = passed_within (g.T.Sums.size c.args.sums.now) (g.T.Sums.numbers c.args.sums.now) c.args.hand.now c.loop-place.totals c.loop-place.bit c.loop-place._place c.loop-place-test.true c.loop-place.invariant

pub leave_out-requires-clause-part : goal.leave_out-requires-clause-part
leave_out-requires-clause-part g c = passed_part (g.T.Sums.size c.args.sums.now) (g.T.Sums.numbers c.args.sums.now) c.args.hand.now c.loop-place.totals c.loop-place.bit c.loop-place._place (omega arith) c.loop-place-test.true c.loop-place.invariant

pub overflow_mul-bit : goal.overflow_mul-bit
overflow_mul-bit g c = omega (arith, c.loop-place.invariant.bit_is, bit_small c.loop-place._place c.loop-place-test.true)

pub loop-place-preserved : goal.loop-place-preserved
loop-place-preserved g c = passed_more (g.T.Sums.size c.args.sums.now) (g.T.Sums.numbers c.args.sums.now) c.args.hand.now c.loop-place.totals c.leave_out.new.totals c.loop-place.bit c.loop-place._place (omega arith) c.loop-place-test.true c.loop-place.invariant c.leave_out.ensures.discarded c.leave_out.ensures.held

pub returns-clause-totals : goal.returns-clause-totals
returns-clause-totals g c = done (g.T.Sums.size c.args.sums.now) (g.T.Sums.numbers c.args.sums.now) c.args.hand.now c.loop-place.totals c.loop-place.bit c.loop-place._place c.requires (omega arith) (omega arith) c.loop-place.invariant

pub leave_out-requires-clause-one : goal.leave_out-requires-clause-one
leave_out-requires-clause-one g c = one_bit c.loop-place._place c.loop-place.bit c.loop-place-test.true c.loop-place.invariant.bit_is

raised_le : (k r : ℕ) → raised_by k r ≤ r + k
unfolding raised_by
raised_le k r = omega arith

pub returns-clause-reads : goal.returns-clause-reads
returns-clause-reads g c = omega (arith, c.held_sums-totals.ensures.counted, raised_le 32 (g.T.Sums.reads c.args.sums.now))
