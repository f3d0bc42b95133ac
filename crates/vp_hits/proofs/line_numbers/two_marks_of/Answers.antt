use Rattle.std.proofs.Common.{refl}
use Rattle.vp_hits.specs.Hits.{mark}
use Rattle.vp_hits.proofs.Chances.{numbers_more}
use Rattle.vp_hits.proofs.line_numbers.two_marks_of.Goals as goal

pub returns : goal.returns
returns c = numbers_more (mark c.args.first) _ c.args.second _ 16777216 _ c.place_of.ensures.place c.place_of.ensures.inside c.requires.second refl c.marks_of-numbers.ensures
