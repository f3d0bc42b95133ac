use Rattle.vp_hits.proofs.Chances.{one_number}
use Rattle.vp_hits.proofs.line_numbers.marks_of.Goals as goal

pub returns : goal.returns
returns c = one_number c.args.line _ c.place_of.ensures.place c.place_of.ensures.inside c.requires
