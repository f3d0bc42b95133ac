use Rattle.std.proofs.Common.{arith}
use Rattle.vp_hits.specs.Numbers.{two_marks}
use Rattle.vp_hits.proofs.Chances.{mark_le, two_hits_are}
use Rattle.vp_hold.proofs.Numbers.{numbers_small, within}
use Rattle.vp_hits.proofs.pair_hits.pair_of.Goals as goal

pub two_marks_of-numbers-requires : goal.two_marks_of-numbers-requires
two_marks_of-numbers-requires g c = record { first = within c.args.first _ c.requires.rules.most_lines c.requires.one; second = within c.args.second _ c.requires.rules.most_lines c.requires.other }

pub number_means-requires-clause-bounded : goal.number_means-requires-clause-bounded
number_means-requires-clause-bounded g c =
    numbers_small (two_marks c.args.first c.args.second) 250000000000 c.two_marks_of-numbers.result c.two_marks_of-numbers.ensures (λ found. omega (arith, mark_le c.args.first found, mark_le c.args.second found))

pub invariant_of-result : goal.invariant_of-result
invariant_of-result g c = record {
  rules = c.requires.rules;
  counted = two_hits_are (record { table = c.args.table.now; first = c.args.first; second = c.args.second }) c.two_marks_of-numbers.result c.number_means.result c.requires.rules c.two_marks_of-numbers.ensures c.number_means.ensures.sums;
}
