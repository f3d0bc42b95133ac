use Rattle.std.proofs.Common.{rules, ◌≡◌, ℕ, List, [], ◌∷◌, length, take, arith, refl}
use Rattle.vp_count.proofs.Steps.{set_without, leaf_total, leaf_reads, held_step, held_reads, discard_sum, discard_reads}
use Rattle.vp_count.proofs.totals.+held_part.Goals as goal

empty : (s : List ℕ) → length s ≡ 0 → s ≡ []
empty [] h = refl
empty (x ∷ s) h = absurd (omega arith)

pub returns-in_default-clause-total : goal.returns-in_default-clause-total
returns-in_default-clause-total g t c =
    leaf_total (g.T.Sums.size c.args.sums.now) (g.T.Sums.numbers c.args.sums.now) (take c.args.count c.args.chosen) c.args.rest.now c.args.mask c.at.result (empty c.args.rest.now c.in_default.ensures.cases) c.at.ensures.sum

pub returns-in_default-clause-reads : goal.returns-in_default-clause-reads
returns-in_default-clause-reads g t c =
    leaf_reads c.args.rest.now c.args.mask (g.T.Sums.reads c.args.sums.now) (g.T.Sums.reads c.at.new.self) (empty c.args.rest.now c.in_default.ensures.cases) c.at.ensures.counted

pub returns-then-mask-eq1-clause-total : goal.returns-then-mask-eq1-clause-total
returns-then-mask-eq1-clause-total g t c =
    held_step (g.T.Sums.size c.args.sums.now) (g.T.Sums.numbers c.args.sums.now) c.args.chosen c.args.count c.in-Some.card.now c.in-Some.later.now c.args.rest.now c.args.mask c.held_part.result (omega (arith, c.in-Some.ensures.cases.1)) c.in-Some.ensures.cases.0 c.if-mask-eq1.true c.held_part.ensures.total

pub returns-then-mask-eq1-clause-reads : goal.returns-then-mask-eq1-clause-reads
returns-then-mask-eq1-clause-reads g t c =
    held_reads c.in-Some.card.now c.in-Some.later.now c.args.rest.now c.args.mask (g.T.Sums.reads c.args.sums.now) (g.T.Sums.reads c.held_part.new.sums) c.in-Some.ensures.cases.0 c.if-mask-eq1.true c.held_part.ensures.reads

pub held_part-free-requires : goal.held_part-free-requires
held_part-free-requires g t c κs within =
    (search rules, (search rules, (omega (arith, c.in-Some.ensures.cases.1), set_without (g.T.Sums.size c.args.sums.now) (take c.args.count c.args.chosen) c.in-Some.card.now c.in-Some.later.now c.args.rest.now c.in-Some.ensures.cases.0 c.requires.set)))

pub overflow_sub-result : goal.overflow_sub-result
overflow_sub-result g t c = omega (
  arith,
  discard_sum (g.T.Sums.size c.args.sums.now) (g.T.Sums.numbers c.args.sums.now) c.args.chosen c.args.count c.in-Some.card.now c.in-Some.later.now c.args.rest.now c.args.mask c.held_part-free.result c.held_part-2.result
      (g.T.Sums.size c.held_part-free.new.sums) (g.T.Sums.numbers c.held_part-free.new.sums) c.held_part-free.ensures.same_size c.held_part-free.ensures.same_numbers
      (omega (arith, c.in-Some.ensures.cases.1)) c.in-Some.ensures.cases.0 c.if-mask-eq1.false c.held_part-free.ensures.total c.held_part-2.ensures.total,
)

pub returns-clause-total : goal.returns-clause-total
returns-clause-total g t c = omega (
  arith,
  discard_sum (g.T.Sums.size c.args.sums.now) (g.T.Sums.numbers c.args.sums.now) c.args.chosen c.args.count c.in-Some.card.now c.in-Some.later.now c.args.rest.now c.args.mask c.held_part-free.result c.held_part-2.result
      (g.T.Sums.size c.held_part-free.new.sums) (g.T.Sums.numbers c.held_part-free.new.sums) c.held_part-free.ensures.same_size c.held_part-free.ensures.same_numbers
      (omega (arith, c.in-Some.ensures.cases.1)) c.in-Some.ensures.cases.0 c.if-mask-eq1.false c.held_part-free.ensures.total c.held_part-2.ensures.total,
)

pub returns-clause-reads : goal.returns-clause-reads
returns-clause-reads g t c =
    discard_reads c.in-Some.card.now c.in-Some.later.now c.args.rest.now c.args.mask (g.T.Sums.reads c.args.sums.now) (g.T.Sums.reads c.held_part-free.new.sums) (g.T.Sums.reads c.held_part-2.new.sums) c.in-Some.ensures.cases.0 c.if-mask-eq1.false c.held_part-free.ensures.reads c.held_part-2.ensures.reads
