use Rattle.std.proofs.Common.{arith}
use Rattle.vp_hits.specs.Hits.{mark}
use Rattle.vp_hits.proofs.Chances.{hits_are, mark_le}
use Rattle.vp_hold.proofs.Numbers.{numbers_small, within}
use Rattle.vp_hits.proofs.line_hits.Hits.fill.Goals as goal

pub marks_of-requires : goal.marks_of-requires
marks_of-requires g c = within c.args.line _ c.requires.rules.most_lines c.requires.inside

pub number_means-requires-clause-bounded : goal.number_means-requires-clause-bounded
number_means-requires-clause-bounded g c = numbers_small (mark c.args.line) 250000000000 c.marks_of.result c.marks_of.ensures (λ found. omega (arith, mark_le c.args.line found))

pub invariant_of-result : goal.invariant_of-result
invariant_of-result g c = record {
  rules = c.requires.rules;
  counted = hits_are (record { table = c.args.table.now; line = c.args.line }) c.marks_of.result c.number_means.result c.requires.rules c.marks_of.ensures c.number_means.ensures.sums;
}
